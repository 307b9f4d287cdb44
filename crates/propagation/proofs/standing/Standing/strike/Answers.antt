use Rattle.std.proofs.Common.{◌≡◌, ℕ, ◌<◌, T, List, length, get_or, set, sym, ap, ◌∙◌, arith}
use Rattle.network.specs.Network.{part, words}
use Rattle.network.specs.Sets.{set_without}
use Rattle.network.specs.declared.options.OptionSet.{OptionSet}
use Rattle.network.proofs.Words.{length_words, word_of, words_set}
use Rattle.network.proofs.Masks.{without_is}
use Rattle.propagation.specs.Strikes.{without, options}
use Rattle.propagation.proofs.Strikes.{is_field, options_without}
use Rattle.propagation.proofs.standing.Standing.strike.Goals as goal

-- the sets once the option was taken out of its field
after : (sets : List OptionSet) (x a : ℕ) (w : OptionSet) → T (part (words sets) x a) → w.word ≡ set_without (get_or sets x (record { word = 0 })).word a → words (set sets x w) ≡ without (words sets) x a
after sets x a w stands e =
    let none : OptionSet = record { word = 0 } in
    let lt : x < length sets = omega (arith, is_field (words sets) x a stands, length_words sets) in
    words_set sets x w ∙ ap (set (words sets) x) (e ∙ ap (λ v. set_without v a) (sym (word_of sets x none lt)) ∙ without_is _ a stands)

pub push_reserved-requires : goal.push_reserved-requires
push_reserved-requires c =
    omega (arith, c.args.self.now.room, options_without (words c.args.self.now.sets.now) c.args.place.own c.args.option c.requires)

pub invariant_of-self : goal.invariant_of-self
invariant_of-self c =
    let sets = words c.args.self.now.sets.now in
    let x = c.args.place.own in
    let a = c.args.option in
    record { room = omega (arith, c.args.self.now.room, ap options (after c.args.self.now.sets.now x a c.without.result c.requires c.without.ensures), options_without sets x a c.requires, c.push_reserved.ensures.len, c.push_reserved.ensures.capacity) }

pub returns-clause-after : goal.returns-clause-after
returns-clause-after c = after c.args.self.now.sets.now c.args.place.own c.args.option c.without.result c.requires c.without.ensures
