use Rattle.std.proofs.Common.{◌≡◌, ℕ, ◌<◌, ltb, List, length, get_or, is_some, Some, None, Option, Result, Bor, vec_items, sym, refl, ap, ◌∙◌, subst, arith, MatchResult}
use Rattle.std.specs.Option.{IfSome, ok_or, option_copied}
use Rattle.std.proofs.lemmas.Bool.{ltb-true, ltb-false}
use Rattle.faults.specs.declared.EngineFault.{EngineFault}
use Rattle.faults.specs.declared.EngineFault.TheVariants.{OutOfRange}
use Rattle.network.specs.declared.options.OptionSet.{OptionSet}
use Rattle.draft.specs.View.{held, StandsIn, NoField}
use Rattle.draft.specs.declared.draft.Opened.{Opened}
use Rattle.draft.proofs.Drafts.{opening_length, standing_long, word_read}
use Rattle.draft.proofs.draft.Opened.show.Goals as goal

-- what was looked up in the list of the sets that stand
looked_up : (o : Opened) (x : ℕ) (sets : List OptionSet) (got : Option (Bor OptionSet)) (r : Result OptionSet EngineFault) → sets ≡ vec_items o.standing → is_some got ≡ ltb x (length sets) → IfSome got (λ b. b.now ≡ get_or sets x b.now) → r ≡ ok_or (option_copied got) OutOfRange →
    MatchResult r (StandsIn (held o) x) (NoField (held o) x)
looked_up o x sets (Some b) r es some at er =
    let within : x < length sets = ltb-true x (length sets) (sym some) in
    let long = ap length es in
    let here = at ∙ ap (λ l. get_or l x b.now) es in
    subst (λ v. MatchResult v (StandsIn (held o) x) (NoField (held o) x)) (sym er)
    (record { field = omega (arith, standing_long o, opening_length o, o.standing.ok.0); word = word_read o x b.now (omega (arith, standing_long o, o.standing.ok.0)) here })
looked_up o x sets None r es none at er =
    let past = ltb-false x (length sets) (sym none) in
    let long = ap length es in
    subst (λ v. MatchResult v (StandsIn (held o) x) (NoField (held o) x)) (sym er) (record { past = omega (arith, standing_long o, opening_length o, o.standing.ok.0); refused = refl })

pub returns : goal.returns
returns c =
    let o = c.args.self.now in
    subst (λ x. MatchResult c.ok_or.result (StandsIn (held o) x) (NoField (held o) x)) c.from.ensures
    (looked_up o _ _ _ _ c.deref.ensures.value c.get.ensures.lookup.0 c.get.ensures.lookup.1 (c.ok_or.ensures.value ∙ ap (λ v. ok_or v OutOfRange) c.copied.ensures))
