use Rattle.std.proofs.Common.{◌≡◌, ◌+◌, List, [], ◌∷◌, count_ones, sum_by, refl, ap, ◌∙◌, rules}
use Rattle.std.proofs.lemmas.List.Sums.{sum_by-cons}
use Rattle.network.specs.Network.{words}
use Rattle.network.specs.declared.options.OptionSet.{OptionSet}
use Rattle.propagation.specs.Strikes.{options}
use Rattle.draft.proofs.settling.count_options.Goals as goal

-- the options of some sets are those of each, added up
options_sum : (sets : List OptionSet) → sum_by (λ s. count_ones s.word) sets ≡ options (words sets)
options_sum [] = refl
options_sum (s ∷ sets) = sum_by-cons (λ t. count_ones t.word) s sets ∙ ap (λ n. count_ones s.word + n) (options_sum sets)

pub returns : goal.returns
returns c =
    let is : c.sum.result ≡ sum_by (λ s. count_ones s.word) c.args.sets.now = search rules in
    is ∙ options_sum c.args.sets.now
