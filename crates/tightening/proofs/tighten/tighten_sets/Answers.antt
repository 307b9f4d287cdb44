use Rattle.std.proofs.Common.{◌≡◌, ◌*◌, length, sym, ap, ◌∙◌, arith}
use Rattle.std.proofs.lemmas.List.{with_items_is, length-take-le, take-map}
use Rattle.std.proofs.lemmas.Result.{err_from_is_err_and}
use Rattle.network.specs.Network.{words}
use Rattle.network.proofs.Words.{length_words}
use Rattle.tightening.proofs.Finishing.{passed, front_words, done_front, failed}
use Rattle.tightening.proofs.tighten.tighten_sets.Goals as goal

pub returns-in_err-tighten_copy : goal.returns-in_err-tighten_copy
returns-in_err-tighten_copy g c =
    let rules = g.B.Book.meaning c.args.book.now in
    let sets = c.args.sets.now in
    let n = length sets in
    let pairs = c.args.pairs.now in
    let first = c.tighten_copy.new.pairs in
    let ok = c.in_ok-check_tightening.ensures.accepted in
    let none = passed _ c.in_ok-check_tightening.ensures.answer in
    let long : length (words first) ≡ n * 512 = length_words first ∙ c.tighten_copy.auto.pairs ∙ length-take-le (n * 512) pairs (omega (arith, ok.1, length_words pairs)) in
    let is = front_words (n * 512) first pairs in
    let p = err_from_is_err_and c.from_residual-in_err-tighten_copy.result c.from_residual-in_err-tighten_copy.ensures.1 in
    rw (p.1, p.2) (failed n (words pairs) (words first) _ is long rules (words sets) (words c.tighten_copy.new.copy) _ c.in_err-tighten_copy.field-0.0 (sym (length_words sets)) ok.1 none (sym (take-map (λ s. s.word) (n * 512) pairs)) c.in_err-tighten_copy.ensures)

pub returns : goal.returns
returns g c =
    let rules = g.B.Book.meaning c.args.book.now in
    let sets = c.args.sets.now in
    let n = length sets in
    let pairs = c.args.pairs.now in
    let first = c.tighten_copy.new.pairs in
    let ok = c.in_ok-check_tightening.ensures.accepted in
    let none = passed _ c.in_ok-check_tightening.ensures.answer in
    let long : length (words first) ≡ n * 512 = length_words first ∙ c.tighten_copy.auto.pairs ∙ length-take-le (n * 512) pairs (omega (arith, ok.1, length_words pairs)) in
    let is = front_words (n * 512) first pairs in
    let copy = c.tighten_copy.new.copy in
    let told = c.in_ok-tighten_copy.ensures in
    let same : c.copy_from_slice.new.self ≡ copy =
    c.copy_from_slice.ensures.after ∙ c.as_slice.ensures.value ∙ with_items_is c.in_ok-copy.copy copy (c.tighten_copy.auto.copy ∙ c.as_mut_slice.ensures.len) in
    (none, done_front n (words pairs) (words first) _ is long rules (words sets) (words copy) (words c.copy_from_slice.new.self) (sym (length_words sets)) ok.1 told.0 told.1.0 told.1.1 (ap words same))
