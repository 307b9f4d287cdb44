-- The law of every draft.
use Rattle.std.proofs.Common.{◌≡◌, ℕ, zero, suc, ◌+◌, ◌^◌, ◌<◌, ◌≤◌, ◌&&◌, T, eqb, ltb, ◌⊎◌, List, [], ◌∷◌, length, get_or, Ok, Err, sym, refl, ap, ◌∙◌, subst, inl, inr, ⊎_elim, arith, eqb→eq, ltb→lt, lt→ltb}
use lib.Dec.{eqb_refl}
use Rattle.std.proofs.lemmas.Bool.{cases_lt}
use Rattle.faults.specs.declared.EngineFault.TheVariants.{WipedOut}
use Rattle.network.specs.Network.{option_limit, part, Part, Rule, rule_at, ArcConsistent, InLargest, Largest, NoStricter}
use Rattle.network.proofs.Truth.{and_T, T_left, T_right}
use Rattle.network.proofs.Bits.{some_bit}
use Rattle.propagation.specs.Strikes.{permits, options, InForce}
use Rattle.propagation.specs.Opening.{Accepted, Emptied, Blamed}
use Rattle.propagation.specs.declared.record.Decision.{Decision}
use Rattle.draft.specs.Draft.{State, Outcome, Event, Run, Step, Settles, opened, decisions, allowed_by, permitted, Admissible}
use Rattle.draft.specs.Draft.Settles.{done, wiped, unfit}
use Rattle.draft.specs.Law.{Balanced, Counts, TellsWipedOut, ToBlame, SettlesExactly, AtLeastAsLoose, ShowsNoLess, Lawful, Law, KeepsTheLaw, LawfulRun}
use Rattle.draft.specs.declared.types.Call.{Call}
use Rattle.draft.specs.declared.types.Answer.TheVariants.{Settled}
use Rattle.draft.proofs.Strikes.{struck_options, struck_once, struck_gone, struck_caused, struck_length, struck_fit}
use Rattle.draft.proofs.Ledger.{Good, good_after}

-- a configuration is a part, with one option in each of the n fields
abbrev single : ℕ → (ℕ → ℕ) → Part
single n c x a = ltb x n && eqb a (c x)

single_at : (n : ℕ) (c : ℕ → ℕ) (x : ℕ) → x < n → T (single n c x (c x))
single_at n c x l = and_T _ _ (lt→ltb x n l) (eqb_refl (c x))

single_consistent : (rules : List Rule) (opening : List ℕ) (n : ℕ) (c : ℕ → ℕ) → Accepted rules opening → length opening ≡ n → Admissible rules c → ArcConsistent rules (single n c)
single_consistent rules opening n c ok e adm = record {
  on_left = λ r a l t.
      let is : a ≡ c (rule_at rules r).left = eqb→eq _ _ (T_right (ltb (rule_at rules r).left n) _ t) in (
        c (rule_at rules r).right,
        (subst (λ z. T ((rule_at rules r).allows z (c (rule_at rules r).right))) (sym is) (adm r l), single_at n c (rule_at rules r).right (let h = ok.right_is_field r l in omega arith)),
      );
  on_right = λ r b l t.
      let is : b ≡ c (rule_at rules r).right = eqb→eq _ _ (T_right (ltb (rule_at rules r).right n) _ t) in (
        c (rule_at rules r).left,
        (subst (λ z. T ((rule_at rules r).allows (c (rule_at rules r).left) z)) (sym is) (adm r l), single_at n c (rule_at rules r).left (let h = ok.left_is_field r l in omega arith)),
      );
}

module _ (rules : List Rule) (opening : List ℕ) (ok : Accepted rules opening) (s : State) (g : Good rules opening s) where
  balanced : Balanced rules s
  balanced = record {
    sum = struck_options rules (decisions s.taken) s.opening s.strikes s.standing g.struck;
    once = struck_once rules (decisions s.taken) s.opening s.strikes s.standing g.struck;
    gone = struck_gone rules (decisions s.taken) s.opening s.strikes s.standing g.struck;
    caused = struck_caused rules (decisions s.taken) s.opening s.strikes s.standing g.struck;
    kept = λ c adm hon x l.
        let n = length s.opening in
        g.whole (single n c) (single_consistent rules opening n c ok (sym (ap length g.same)) adm)
        (λ y b t. subst (λ z. T (allowed_by s y z)) (sym (eqb→eq b (c y) (T_right (ltb y n) _ t))) (hon y (ltb→lt y n (T_left (ltb y n) _ t))))
        x (c x) (single_at n c x l);
  }

  -- the largest part of what stands is that of the opening under the decisions
  from_standing : (x a : ℕ) → InLargest rules (part s.standing) x a → InLargest rules (allowed_by s) x a
  from_standing x a q = (q.0, (λ y b t. g.inside y b (q.1.0 y b t), q.1.1))

  to_standing : (x a : ℕ) → InLargest rules (allowed_by s) x a → InLargest rules (part s.standing) x a
  to_standing x a q = (q.0, (g.whole q.0 q.1.1.0 q.1.0, q.1.1))

  fields_stand : length s.standing ≡ length s.opening
  fields_stand = struck_length rules (decisions s.taken) s.opening s.strikes s.standing g.struck

  some_standing : (x : ℕ) → x < length s.opening → (a : ℕ) × T (part s.standing x a)
  some_standing x l = some_bit option_limit (get_or s.standing x 0) (g.fit x) (g.filled x (let e = fields_stand in omega arith))

  -- a rule that is to blame against the largest part of what stands
  to_blame : (x r : ℕ) → Blamed rules (part s.standing) x r → ToBlame rules s x r
  to_blame x r b = (
    b.0,
    (
      b.1.0,
      (
        b.1.1.0,
        (
          b.1.1.1.0,
          λ q l. b.1.1.1.1 q (record { all = λ y c t. to_standing y c (l.all y c t); only = λ y c t. l.only y c (from_standing y c t) }),
        ),
      ),
    ),
  )

  -- what a settle that is done leaves
  record Left (k m : ℕ) (t : State) : Type 0 where
    largest : Largest rules (allowed_by s) (part t.standing)
    count : options s.standing ≡ options t.standing + k
    shown : options t.standing ≡ m
    some : (x : ℕ) → x < length s.opening → (a : ℕ) × T (part t.standing x a)

  left_by_settle : (k m : ℕ) (answer : Outcome) (t : State) → answer ≡ Ok (Settled k m) → Settles rules s answer t → Left k m t
  left_by_settle k m answer t e (done found after fits h l f a is) =
      let standing : t.standing ≡ after = ap (λ (u : State). u.standing) is in
      let struck : k ≡ length found = cc in
      let left : m ≡ options after = cc in
      let sum = struck_options rules (decisions s.taken) s.standing found after h in
      let long = struck_length rules (decisions s.taken) s.standing found after h in
      record {
        largest = subst (λ z. Largest rules (allowed_by s) (part z)) (sym standing)
            (record { all = λ x b q. from_standing x b (l.all x b q); only = λ x b q. l.only x b (to_standing x b q) });
        count = omega (arith, ap options standing);
        shown = ap options standing ∙ sym left;
        some = λ x p. subst (λ z. (b : ℕ) × T (part z x b)) (sym standing)
            (some_bit option_limit (get_or after x 0) (struck_fit rules (decisions s.taken) (2 ^ option_limit) s.standing found after h g.fit x) (f x (let u = fields_stand in omega arith)));
      }
  left_by_settle k m answer t e (wiped x r fits l h b a is) = let z : ◌≡◌ {A = ℕ} 0 1 = cc in absurd (omega arith)
  left_by_settle k m answer t e (unfit refused a is) = let z : ◌≡◌ {A = ℕ} 0 1 = cc in absurd (omega arith)

  -- what a settle that is wiped out tells
  record Told (x r : ℕ) : Type 0 where
    field_is : x < length s.opening
    empty : Emptied rules (part s.standing) x
    blamed : Blamed rules (part s.standing) x r

  told_by_settle : (x r : ℕ) (answer : Outcome) (t : State) → answer ≡ Err (WipedOut x r) → Settles rules s answer t → Told x r
  told_by_settle x r answer t e (done found after fits h l f a is) = let z : ◌≡◌ {A = ℕ} 0 1 = cc in absurd (omega arith)
  told_by_settle x r answer t e (wiped y q fits l h b a is) =
      let same_field : y ≡ x = cc in
      let same_rule : q ≡ r = cc in
      record {
        field_is = subst (λ z. z < length s.opening) same_field l;
        empty = subst (Emptied rules (part s.standing)) same_field h;
        blamed = subst (λ z. Blamed rules (part s.standing) x z) same_rule (subst (λ z. Blamed rules (part s.standing) z q) same_field b);
      }
  told_by_settle x r answer t e (unfit refused a is) = let z : ◌≡◌ {A = ℕ} 0 1 = cc in absurd (omega arith)

  answered : (answer : Outcome) (t : State) → Settles rules s answer t → Counts answer ⊎ TellsWipedOut answer
  answered answer t (done found after fits h l f a is) = inl (length found, (options after, a))
  answered answer t (wiped x r fits l h b a is) = inr (x, (r, a))
  answered answer t (unfit refused a is) = absurd (refused (subst (Accepted rules) (sym g.same) ok))

  settles_exactly : SettlesExactly rules s
  settles_exactly = record {
    answers = answered;
    largest = λ k m t h. (left_by_settle k m _ t refl h).largest;
    struck = λ k m t h. (left_by_settle k m _ t refl h).count;
    standing = λ k m t h. (left_by_settle k m _ t refl h).shown;
    done_only = λ k m t h w.
        let l = left_by_settle k m _ t refl h in
        let b = l.some w.0 w.1.0 in
        w.1.1 b.0 (l.largest.all w.0 b.0 b.1);
    named_field = λ x r t h. let w = told_by_settle x r _ t refl h in (w.field_is, λ a q. w.empty a (to_standing x a q));
    named_rule = λ x r t h. to_blame x r (told_by_settle x r _ t refl h).blamed;
  }

-- decisions in force permit what they all permit

permitted_at : (ds : List Decision) (i : ℕ) (d : Decision) (x a : ℕ) → i < length ds → ((e : Decision) → get_or ds i e ≡ d) → T (permitted ds x a) → T (permits d x a)
permitted_at [] i d x a l e t = absurd (omega arith)
permitted_at (u ∷ ds) zero d x a l e t = subst (λ q. T (permits q x a)) (e u) (T_left (permits u x a) _ t)
permitted_at (u ∷ ds) (suc i) d x a l e t = permitted_at ds i d x a (omega arith) e (T_right (permits u x a) _ t)

permitted_all : (ds es : List Decision) (x a : ℕ) → ((d : Decision) → InForce es d → InForce ds d) → T (permitted ds x a) → T (permitted es x a)
permitted_all ds [] x a f t = tt
permitted_all ds (e ∷ es) x a f t =
    let first = f e (0, (omega arith, λ _. refl)) in
    and_T _ _ (permitted_at ds first.0 e x a first.1.0 first.1.1 t) (permitted_all ds es x a (λ d h. f d (suc h.0, (let l = h.1.0 in omega arith, h.1.1))) t)

looser_rules : (rules rules' : List Rule) (p : Part) → NoStricter rules' rules → ArcConsistent rules p → ArcConsistent rules' p
looser_rules rules rules' p loose ac = record {
  on_left = λ r a l t.
      let q = loose r l in
      let m = ac.on_left q.0 a q.1.0 (subst (λ x. T (p x a)) q.1.1.0 t) in
      (m.0, (q.1.1.1.1 a m.0 m.1.0, subst (λ x. T (p x m.0)) (sym q.1.1.1.0) m.1.1));
  on_right = λ r b l t.
      let q = loose r l in
      let m = ac.on_right q.0 b q.1.0 (subst (λ x. T (p x b)) q.1.1.1.0 t) in
      (m.0, (q.1.1.1.1 m.0 b m.1.0, subst (λ x. T (p x m.0)) (sym q.1.1.0) m.1.1));
}

largest_looser : (rules rules' : List Rule) (s s' : State) → AtLeastAsLoose rules rules' s s' → (x a : ℕ)
    → InLargest rules (allowed_by s) x a → InLargest rules' (allowed_by s') x a
largest_looser rules rules' s s' loose x a q = (
  q.0,
  (
    λ y b t.
        let h = q.1.0 y b t in
        and_T _ _ (loose.opened_with y b (T_left (part s.opening y b) _ h))
        (permitted_all (decisions s.taken) (decisions s'.taken) y b loose.decided (T_right (part s.opening y b) _ h)),
    (looser_rules rules rules' q.0 loose.no_stricter q.1.1.0, q.1.1.1),
  ),
)

-- one option alone, in a field that no rule has
abbrev lone : ℕ → ℕ → Part
lone x a y b = eqb y x && eqb b a

lone_consistent : (rules : List Rule) (n x a : ℕ) → n ≤ x → ((r : ℕ) → r < length rules → (rule_at rules r).left < n) → ((r : ℕ) → r < length rules → (rule_at rules r).right < n)
    → ArcConsistent rules (lone x a)
lone_consistent rules n x a l f h = record {
  on_left = λ r b k t. let e = eqb→eq _ _ (T_left (eqb (rule_at rules r).left x) _ t) in let m = f r k in absurd (omega arith);
  on_right = λ r b k t. let e = eqb→eq _ _ (T_left (eqb (rule_at rules r).right x) _ t) in let m = h r k in absurd (omega arith);
}

module _ (rules rules' : List Rule) (opening opening' : List ℕ) (ok : Accepted rules opening) (ok' : Accepted rules' opening')
    (s s' : State) (g : Good rules opening s) (g' : Good rules' opening' s') (loose : AtLeastAsLoose rules rules' s s') where
  -- a field of the looser draft alone is in no rule, so what stands there stays
  stays_alone : (x : ℕ) → length s.opening ≤ x → x < length s'.opening → Emptied rules' (part s'.standing) x → ⊥
  stays_alone x past field empty =
      let b = some_standing rules' opening' ok' s' g' x field in
      let n = length opening in
      let long : length s.opening ≡ n = ap length g.same in
      empty b.0 (
        lone x b.0,
        (
          λ y c q.
              subst (λ z. T (part s'.standing z c)) (sym (eqb→eq y x (T_left (eqb y x) _ q)))
              (subst (λ z. T (part s'.standing x z)) (sym (eqb→eq c b.0 (T_right (eqb y x) _ q))) b.1),
          (
            lone_consistent rules' n x b.0 (omega arith)
                (λ i j. let p = loose.no_stricter i j in subst (λ z. z < n) (sym p.1.1.0) (ok.left_is_field p.0 p.1.0))
                (λ i j. let p = loose.no_stricter i j in subst (λ z. z < n) (sym p.1.1.1.0) (ok.right_is_field p.0 p.1.0)),
            and_T _ _ (eqb_refl x) (eqb_refl b.0),
          ),
        ),
      )

  -- a looser draft is not wiped out where the tighter one settles
  not_wiped_out : (x k m : ℕ) (t : State) → x < length s'.opening → Emptied rules' (part s'.standing) x → Left rules opening ok s g k m t → ⊥
  not_wiped_out x k m t field empty l =
      ⊎_elim
      (λ (in_both : x < length s.opening).
      let b = l.some x in_both in
      empty b.0 (to_standing rules' opening' ok' s' g' x b.0 (largest_looser rules rules' s s' loose x b.0 (l.largest.all x b.0 b.1))))
      (λ (past : length s.opening ≤ x). stays_alone x past field empty)
      (cases_lt x (length s.opening))

  shows_no_less : ShowsNoLess rules rules' s s'
  shows_no_less = record {
    shown = λ k m k' m' t t' h h' x a q.
        (left_by_settle rules' opening' ok' s' g' k' m' _ t' refl h').largest.only x a
        (largest_looser rules rules' s s' loose x a ((left_by_settle rules opening ok s g k m _ t refl h).largest.all x a q));
    wiped_out = λ x r answer t t' h' h.
        let w = told_by_settle rules' opening' ok' s' g' x r _ t' refl h' in
        ⊎_elim
        (λ (c : Counts answer). absurd (not_wiped_out x c.0 c.1.0 t w.field_is w.empty (left_by_settle rules opening ok s g c.0 c.1.0 answer t c.1.1 h)))
        (λ (c : TellsWipedOut answer). c)
        (answered rules opening ok s g answer t h);
  }

lawful : (rules : List Rule) (opening : List ℕ) → Accepted rules opening → (h : List Event) (s : State) → Run rules (opened opening) h s → Lawful rules opening s
lawful rules opening ok h s run =
    let g = good_after rules opening ok h s run in
    record {
      opening_stays = g.same;
      balanced = balanced rules opening ok s g;
      exact = settles_exactly rules opening ok s g;
      looser = λ rules' s' r loose.
          shows_no_less rules rules' opening r.0 ok r.1.0 s s' g (good_after rules' r.0 r.1.0 r.1.1.0 s' r.1.1.1) loose;
      tighter = λ rules' s' r loose.
          shows_no_less rules' rules r.0 opening r.1.0 ok s' s (good_after rules' r.0 r.1.0 r.1.1.0 s' r.1.1.1) g loose;
    }

pub law : Law
law rules opening ok [] last run = lawful rules opening ok [] last run
law rules opening ok (e ∷ before) last run = (lawful rules opening ok (e ∷ before) last run, law rules opening ok before run.0 run.1.0)

pub lawful_run : (rules : List Rule) (opening : List ℕ) → Accepted rules opening → (h : List Event) (last : State) → Run rules (opened opening) h last → LawfulRun rules opening h last
lawful_run rules opening ok h last run = (run, law rules opening ok h last run)

-- a call that is made, and one that changes nothing
pub step_keeps_the_law : (rules : List Rule) (s : State) (c : Call) (answer : Outcome) (s' : State) → Step rules s c answer s' → KeepsTheLaw rules s s'
step_keeps_the_law rules s c answer s' step opening ok h run =
    (lawful rules opening ok h s run, lawful rules opening ok (record { asked = c; answered = answer } ∷ h) s' (s, (run, step)))

pub same_keeps_the_law : (rules : List Rule) (s s' : State) → s' ≡ s → KeepsTheLaw rules s s'
same_keeps_the_law rules s s' same opening ok h run =
    let l = lawful rules opening ok h s run in (l, subst (Lawful rules opening) (sym same) l)
