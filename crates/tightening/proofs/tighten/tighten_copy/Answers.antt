use Rattle.std.proofs.Common.{◌≡◌, ℕ, T, List, length, get_or, sym, refl, ap, ◌∙◌, subst, rules}
use Rattle.network.specs.Network.{Rule, part, words}
use Rattle.network.specs.declared.options.OptionSet.{OptionSet}
use Rattle.network.proofs.Words.{length_words}
use Rattle.agenda.specs.Waiting.{Waiting}
use Rattle.books.specs.Pairs.{pairs_of}
use Rattle.tightening.specs.Probes.{probes_of}
use Rattle.tightening.specs.Start.{Standing}
use Rattle.tightening.specs.Tightening.{Tightest}
use Rattle.tightening.specs.Underway.{Between}
use Rattle.tightening.proofs.Sets.{all_empty}
use Rattle.tightening.proofs.Finishing.{between_start, at_err, at_ok}
use Rattle.tightening.proofs.tighten.tighten_copy.Goals as goal

-- at the start, by the copy
begun_by : (rules : List Rule) (sets copy : List OptionSet) (pairs : List ℕ) (w : Waiting) → copy ≡ sets → Standing rules (words sets) pairs → ((x a : ℕ) → T (part (words sets) x a) → T (probes_of w x a))
    → Between rules (words sets) (length copy) (words copy) pairs w
begun_by rules sets copy pairs w same s all =
    subst (λ l. Between rules (words sets) (length l) (words l) pairs w) (sym same)
    (subst (λ n. Between rules (words sets) n (words sets) pairs w) (length_words sets) (between_start rules (words sets) pairs w s all))

pub probe_all-requires-clause-begun : goal.probe_all-requires-clause-begun
probe_all-requires-clause-begun g c =
    let rules = g.B.Book.meaning c.args.book.now in
    let sets = c.args.sets.now in
    let pairs = words c.stand_at_start.new.pairs in
    let same : c.args.copy.now ≡ sets = c.requires.copied in
    let begun = begun_by rules sets c.args.copy.now pairs (g.V.Agenda.waiting c.put_probes.new.probes) same c.stand_at_start.ensures c.put_probes.ensures.all in
    (rules, (words sets, begun))

pub returns-then-is_err : goal.returns-then-is_err
returns-then-is_err g c =
    let rules = g.B.Book.meaning c.args.book.now in
    let sets = c.args.sets.now in
    let pairs = words c.stand_at_start.new.pairs in
    let same : c.args.copy.now ≡ sets = c.requires.copied in
    let begun = begun_by rules sets c.args.copy.now pairs (g.V.Agenda.waiting c.put_probes.new.probes) same c.stand_at_start.ensures c.put_probes.ensures.all in
    let out = at_err c.probe_all.result (sym c.is_err.ensures.value ∙ c.if-is_err.true) c.probe_all.ensures.emptied rules (words sets) begun in
    let zeros = c.fill.ensures.after (λ y h. search rules) in
    rw c.into.ensures (refl, (out, λ i. ap (λ l. get_or (words l) i 0) zeros ∙ all_empty _ i c.empty.result c.empty.ensures))

pub returns : goal.returns
returns g c =
    let rules = g.B.Book.meaning c.args.book.now in
    let sets = c.args.sets.now in
    let pairs = words c.stand_at_start.new.pairs in
    let same : c.args.copy.now ≡ sets = c.requires.copied in
    let begun = begun_by rules sets c.args.copy.now pairs (g.V.Agenda.waiting c.put_probes.new.probes) same c.stand_at_start.ensures c.put_probes.ensures.all in
    let done = sym c.is_err.ensures.value ∙ c.if-is_err.false in
    let last = c.probe_all.new.self in
    let copy_is = c.copy-1.given.1.1 (sym c.probe_all.ensures.sets) in
    let pairs_are = c.pairs-2-1.given.1.1 (sym c.probe_all.ensures.pairs) in
    let long : length (words last.sets.now) ≡ length (words sets) = length_words last.sets.now ∙ c.probe_all.ensures.length ∙ ap length same ∙ sym (length_words sets) in
    let filled = at_ok c.probe_all.result done c.probe_all.ensures.filled in
    let tight = at_ok c.probe_all.result done c.probe_all.ensures.tightest rules (words sets) begun in
    rw (copy_is, pairs_are) (long, (filled, subst (λ k. Tightest rules (words sets) (part (words last.sets.now)) (pairs_of k (words last.pairs.now))) (ap length same ∙ sym (length_words sets)) tight))
