use Rattle.std.proofs.Common.{◌≡◌, ◌<◌, ◌&&◌, length, get_or, sym, ap, ◌∙◌, subst, arith}
use Rattle.network.specs.Network.{has, words, rule_at}
use Rattle.network.proofs.Bits.{has_below}
use Rattle.network.proofs.Words.{length_words, word_of}
use Rattle.books.specs.Reads.{allowed}
use Rattle.tightening.proofs.Starting.{PartWay, part_way_two, part_way_start, part_way_end, part_way_step, keep_tells, ends_told}
use Rattle.tightening.proofs.start.forbid_by_rule.Goals as goal

pub bounds-sets-ends : goal.bounds-sets-ends
bounds-sets-ends g c =
    (ends_told (g.B.Book.meaning c.args.book.now) (words c.args.sets.now) c.args.rule c.requires.accepted c.requires.rule (length c.args.sets.now) c.ends-ends.result.left c.ends-ends.result.right
    (length_words c.args.sets.now) c.ends-ends.ensures.left c.ends-ends.ensures.right).left_is_field

pub bounds-sets-ends-in-Some : goal.bounds-sets-ends-in-Some
bounds-sets-ends-in-Some g c =
    (ends_told (g.B.Book.meaning c.args.book.now) (words c.args.sets.now) c.args.rule c.requires.accepted c.requires.rule (length c.args.sets.now) c.ends-ends.result.left c.ends-ends.result.right
    (length_words c.args.sets.now) c.ends-ends.ensures.left c.ends-ends.ensures.right).right_is_field

pub loop-option-init : goal.loop-option-init
loop-option-init g c =
    let rules = g.B.Book.meaning c.args.book.now in
    let k = c.args.rule in
    let ok = c.requires.accepted in
    let sets = c.args.sets.now in
    let pairs = words c.args.pairs.now in
    let x = c.ends-ends.result.left in
    let y = c.ends-ends.result.right in
    let ends = ends_told rules (words sets) k ok c.requires.rule (length sets) x y (length_words sets) c.ends-ends.ensures.left c.ends-ends.ensures.right in
    let waits : get_or (words sets) (rule_at rules k).left 0 ≡ (get_or sets x (record { word = 0 })).word = ap (λ z. get_or (words sets) z 0) (sym ends.left) ∙ word_of sets x (record { word = 0 }) ends.left_is_field in
    subst (λ w. PartWay rules (words sets) k (length sets) w pairs) waits (part_way_start rules (words sets) k (length sets) pairs (length_words sets) c.requires.rule c.requires.pairs)

pub keep_toward-requires : goal.keep_toward-requires
keep_toward-requires g c =
    let rules = g.B.Book.meaning c.args.book.now in
    let k = c.args.rule in
    let ok = c.requires.accepted in
    let sets = c.args.sets.now in
    let x = c.ends-ends.result.left in
    let y = c.ends-ends.result.right in
    let ends = ends_told rules (words sets) k ok c.requires.rule (length sets) x y (length_words sets) c.ends-ends.ensures.left c.ends-ends.ensures.right in
    let d = c.in-Some.option in
    let now = c.loop-option.invariant in
    let t = now.of_set d c.in-Some.ensures.least.0 in
    record {
      table = record {
        few = omega (arith, ok.few, length_words sets);
        field = ends.left_is_field;
        option = has_below 32 (get_or (words sets) (rule_at rules k).left 0) d (ok.fit (rule_at rules k).left) t;
        room = omega (arith, c.requires.room, c.loop-option.auto.pairs, length_words c.loop-option.pairs, length_words c.args.pairs.now);
      };
      other = ends.right_is_field;
      apart = ends.apart;
      pairs = part_way_two rules (words sets) k (length sets) c.loop-option.waiting.word (words c.loop-option.pairs) now;
    }

pub loop-option-preserved : goal.loop-option-preserved
loop-option-preserved g c =
    let rules = g.B.Book.meaning c.args.book.now in
    let k = c.args.rule in
    let ok = c.requires.accepted in
    let sets = c.args.sets.now in
    let pairs = words c.loop-option.pairs in
    let left = words c.keep_toward.new.words in
    let x = c.ends-ends.result.left in
    let y = c.ends-ends.result.right in
    let ends = ends_told rules (words sets) k ok c.requires.rule (length sets) x y (length_words sets) c.ends-ends.ensures.left c.ends-ends.ensures.right in
    let w = c.loop-option.waiting.word in
    let d = c.in-Some.option in
    let keep = c.allowed_with-keep.result.word in
    let h = c.in-Some.ensures.least.0 in
    let small : d < 32 = has_below 32 (get_or (words sets) (rule_at rules k).left 0) d (ok.fit (rule_at rules k).left) (c.loop-option.invariant.of_set d h) in
    let across : (get_or sets y (record { word = 0 })).word ≡ get_or (words sets) (rule_at rules k).right 0 = sym (word_of sets y (record { word = 0 }) ends.right_is_field) ∙ ap (λ z. get_or (words sets) z 0) ends.right in
    let told = keep_tells rules (words sets) k ok c.requires.rule d keep small (λ b. c.allowed_with-keep.ensures b ∙ ap (λ v. has v b && allowed rules k d b) across) in
    subst (λ v. PartWay rules (words sets) k (length sets) v left) (sym c.in-Some.ensures.after)
    (part_way_step rules (words sets) k (length sets) pairs left w d x y keep h ends.left ends.right told c.keep_toward.ensures.leaves c.loop-option.invariant)

pub returns : goal.returns
returns g c =
    let sets = c.args.sets.now in
    part_way_end (g.B.Book.meaning c.args.book.now) (words sets) c.args.rule (length sets) c.loop-option.waiting.word (words c.loop-option.pairs) (length_words sets) c.requires.rule c.in_default.ensures.least c.loop-option.invariant
