use Rattle.std.proofs.Common.{not, [], eqb, length, Ok, sym, ap, ◌∙◌, subst, arith}
use Rattle.std.proofs.lemmas.Result.{err_from_is_err_and}
use Rattle.network.specs.Network.{part, words}
use Rattle.network.proofs.Words.{length_words}
use Rattle.propagation.specs.Opening.{IsWipedOut}
use Rattle.tightening.specs.Outcomes.{Tried}
use Rattle.tightening.proofs.Trying.{wiped_empty, few_options, book_is, probe_accepted, tried_well}
use Rattle.tightening.proofs.outcome.try_out.Goals as goal

pub returns-then-any_empty-clause-tried : goal.returns-then-any_empty-clause-tried
returns-then-any_empty-clause-tried g c = wiped_empty _ (words c.args.trial.now) (sym c.any_empty.ensures.answer ∙ c.if-any_empty.true)

pub propagate-requires : goal.propagate-requires
propagate-requires g c =
    let sets = c.args.trial.now in
    let row = c.args.row.now in
    let full = sym c.any_empty.ensures.answer ∙ c.if-any_empty.false in
    let fit = c.any_empty.ensures.fit c.if-any_empty.false in
    record {
      accepted = probe_accepted sets row.words.now _ row.own.fields _ c.requires.sets c.new-book.ensures.fields c.new-book.ensures.words row.in_table.few (omega (arith, row.in_table.field)) full fit;
      room = omega (arith, c.clear.ensures.len, c.clear.ensures.capacity, few_options (words sets) fit, length_words sets, row.in_table.few, c.requires.sets, c.requires.room);
    }

pub returns-in_err-propagate-clause-tried : goal.returns-in_err-propagate-clause-tried
returns-in_err-propagate-clause-tried g c =
    let sets = c.args.trial.now in
    let row = c.args.row.now in
    let book = book_is sets row.words.now _ row.own.fields _ c.requires.sets c.new-book.ensures.fields c.new-book.ensures.words row.in_table.few in
    let wiped = c.in_err-propagate.ensures.answer in
    let p = err_from_is_err_and c.from_residual.result c.from_residual.ensures.1 in
    rw p.1 (subst (λ rs. IsWipedOut rs (length (words sets)) (part (words sets))) book (c.in_err-propagate.field-0.0.field, (wiped.field, wiped.emptied)))

pub returns-clause-tried : goal.returns-clause-tried
returns-clause-tried g c =
    let sets = c.args.trial.now in
    let row = c.args.row.now in
    let book = book_is sets row.words.now _ row.own.fields _ c.requires.sets c.new-book.ensures.fields c.new-book.ensures.words row.in_table.few in
    let made = c.propagate.ensures.progress in
    subst (λ rs. Tried rs (words sets) (words c.propagate.new.sets) (Ok (not c.is_empty.result))) book
    (tried_well _ (words sets) (words c.propagate.new.sets) made.found c.is_empty.result c.in_ok-propagate.ensures.answer (made.struck []) (c.is_empty.ensures ∙ ap (λ k. eqb k 0) (omega (arith, made.len, c.clear.ensures.len))))
