use Rattle.std.proofs.Common.{◌≡◌, [], length, take, drop, vec_items, vec_len, vec_capacity, sym, ap, ◌∙◌, subst, arith}
use Rattle.std.proofs.lemmas.List.{append-nil, drop_at, take_at}
use Rattle.network.specs.Network.{words}
use Rattle.propagation.specs.Progress.{Filled}
use Rattle.propagation.specs.Strikes.{Struck}
use Rattle.draft.proofs.settling.settle_sets.Goals as goal

pub returns-in-Err : goal.returns-in-Err
returns-in-Err g c =
    let rules = g.B.Book.meaning c.args.book.now in
    let old = c.args.strikes.now in
    let new = c.propagate.new.strikes in
    let made = c.propagate.ensures.progress in
    let mark : length (vec_items old) ≡ c.len-mark.result = sym (c.len-mark.ensures ∙ old.ok.0) in
    let found : drop c.len-mark.result c.as_slice.result.now ≡ made.found =
    ap (drop c.len-mark.result) (c.as_slice.ensures.value ∙ made.items) ∙ drop_at (vec_items old) made.found c.len-mark.result mark in
    let struck : Struck rules [] (words c.args.sets.now) (drop c.len-mark.result c.as_slice.result.now) (words c.propagate.new.sets) =
    subst (λ l. Struck rules [] (words c.args.sets.now) l (words c.propagate.new.sets)) (sym found) (made.struck []) in
    let restored : words c.put_back.new.sets ≡ words c.args.sets.now = c.put_back.ensures.restored rules [] (words c.args.sets.now) c.requires.accepted.fit struck in
    let items : vec_items c.truncate.new.self ≡ vec_items old = c.truncate.ensures.items ∙ ap (take c.len-mark.result) made.items ∙ take_at (vec_items old) made.found c.len-mark.result mark in
    let len : vec_len c.truncate.new.self ≡ vec_len old = omega (arith, c.truncate.ensures.len, c.len-mark.ensures, made.len) in
    let cap : vec_capacity c.truncate.new.self ≡ vec_capacity old = c.truncate.ensures.capacity ∙ made.cap in
    record {
      meaning = c.propagate.ensures.meaning;
      waiting = c.propagate.ensures.waiting;
      progress = record { found = []; items = items ∙ sym (append-nil (vec_items old)); len = omega (arith, len); cap = cap; struck = λ decisions. restored };
      filled = subst (λ sets. Filled sets) (sym restored) c.requires.accepted.filled;
      answer = (record { standing = restored; items = items; len = len; capacity = cap }, c.in-Err.ensures.answer);
    }
