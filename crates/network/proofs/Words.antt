-- The words of a list of sets.
use Rattle.std.proofs.Common.{◌≡◌, ℕ, ◌<◌, ◌≤◌, List, length, get_or, set, arith}
use Rattle.std.proofs.lemmas.List.{length-map, get_or-map, map-set, get_or_past}
use Rattle.network.specs.Network.{words}
use Rattle.network.specs.declared.options.OptionSet.{OptionSet}

pub length_words : (sets : List OptionSet) → length (words sets) ≡ length sets
length_words sets = length-map sets (λ s. s.word)

pub word_of : (sets : List OptionSet) (x : ℕ) (d : OptionSet) → x < length sets → get_or (words sets) x 0 ≡ (get_or sets x d).word
word_of sets x d h = get_or-map (λ s. s.word) sets x d 0 h

pub word_past : (sets : List OptionSet) (x : ℕ) → length sets ≤ x → get_or (words sets) x 0 ≡ 0
word_past sets x h = let l = length_words sets in get_or_past (words sets) x 0 (omega arith)

pub words_set : (sets : List OptionSet) (x : ℕ) (s : OptionSet) → words (set sets x s) ≡ set (words sets) x s.word
words_set sets x s = map-set (λ s. s.word) sets x s
