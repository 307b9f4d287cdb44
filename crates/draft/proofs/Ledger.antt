-- What holds of a draft after every call, and of each draft that a take back leads to from it.
use Rattle.std.proofs.Common.{◌≡◌, ℕ, zero, suc, ◌-◌, ◌^◌, ◌<◌, ◌≤◌, Bool, true, false, cond, not, ◌&&◌, T, eqb, ltb, ◌⊎◌, List, [], ◌∷◌, ◌++◌, length, get_or, take, set, Some, None, Err, Option, sym, refl, ap, ◌∙◌, subst, inl, inr, ⊎_elim, arith, eqb→eq}
use Rattle.std.proofs.lemmas.Nat.{pow_below, pow_pos}
use Rattle.std.proofs.Math.Bool.{and_assoc}
use Rattle.std.proofs.lemmas.List.{length-append, length_push, get_or_push, take-append-le, take_at, map-append}
use Rattle.std.proofs.lemmas.Bool.{ne_eqb, eq-eqb, eqb-false, ltb-true, cases_eq, and_parts, not-false}
use Rattle.faults.specs.declared.EngineFault.{EngineFault}
use Rattle.faults.specs.declared.EngineFault.TheVariants.{OutOfRange, NotStanding, LastOption, NoDecision}
use Rattle.network.specs.Network.{option_limit, has, part, Part, Within, Rule, ArcConsistent, Largest}
use Rattle.network.proofs.Truth.{T_yes, and_T, T_left, T_right, and_true}
use Rattle.network.proofs.Bits.{has_le, has_pow}
use Rattle.propagation.specs.Strikes.{permits, without, left_by, Struck, InForce}
use Rattle.propagation.specs.Opening.{Accepted}
use Rattle.propagation.specs.declared.record.Strike.{Strike}
use Rattle.propagation.specs.declared.record.Decision.{Decision}
use Rattle.propagation.specs.declared.record.Decision.TheVariants as decision
use Rattle.draft.specs.Draft.{State, Outcome, Event, Run, Step, Does, opened, settled, decisions, under, permitted, allowed_by, choose_strikes, exclude_strike, refusal, decide, take_back, no_decision, latest_mark}
use Rattle.draft.specs.Draft.Settles.{done, wiped, unfit}
use Rattle.draft.specs.declared.types.Taken.{Taken}
use Rattle.draft.specs.declared.types.Call.{Call}
use Rattle.draft.specs.declared.types.Call.TheVariants as call
use Rattle.propagation.proofs.Strikes.{is_field}
use Rattle.draft.proofs.Sets.{part_same, part_other, part_without, fit_set, fit_without, filled_set}
use Rattle.draft.proofs.Strikes.{struck_left, struck_fit, struck_append, struck_more, in_force_more}
use Rattle.draft.proofs.Choosing.{choose_struck}

-- one more decision

permitted_push : (ts : List Taken) (t : Taken) (x a : ℕ) → permitted (decisions (ts ++ (t ∷ []))) x a ≡ (permitted (decisions ts) x a && permits t.decision x a)
permitted_push [] t x a = and_true (permits t.decision x a)
permitted_push (u ∷ ts) t x a = ap (λ v. permits u.decision x a && v) (permitted_push ts t x a) ∙ sym (and_assoc (permits u.decision x a) (permitted (decisions ts) x a) (permits t.decision x a))

under_more : (opening : List ℕ) (ts : List Taken) (t : Taken) (x a : ℕ) → T (under opening (decisions ts) x a) → T (permits t.decision x a) → T (under opening (decisions (ts ++ (t ∷ []))) x a)
under_more opening ts t x a h k =
    and_T _ _ (T_left (part opening x a) _ h) (subst T (sym (permitted_push ts t x a)) (and_T _ _ (T_right (part opening x a) _ h) k))

under_less : (opening : List ℕ) (ts : List Taken) (t : Taken) (x a : ℕ) → T (under opening (decisions (ts ++ (t ∷ []))) x a) → T (under opening (decisions ts) x a)
under_less opening ts t x a h =
    and_T _ _ (T_left (part opening x a) _ h) (T_left (permitted (decisions ts) x a) _ (subst T (permitted_push ts t x a) (T_right (part opening x a) _ h)))

under_new : (opening : List ℕ) (ts : List Taken) (t : Taken) (x a : ℕ) → T (under opening (decisions (ts ++ (t ∷ []))) x a) → T (permits t.decision x a)
under_new opening ts t x a h = T_right (permitted (decisions ts) x a) _ (subst T (permitted_push ts t x a) (T_right (part opening x a) _ h))

-- what holds of one draft

pub record Good (rules : List Rule) (opening : List ℕ) (s : State) : Type 0 where
  pub same : s.opening ≡ opening
  pub struck : Struck rules (decisions s.taken) s.opening s.strikes s.standing
  pub inside : Within (part s.standing) (allowed_by s)
  pub whole : (p : Part) → ArcConsistent rules p → Within p (allowed_by s) → Within p (part s.standing)
  pub filled : (x : ℕ) → x < length s.standing → 0 < get_or s.standing x 0
  pub fit : (x : ℕ) → get_or s.standing x 0 < 2 ^ option_limit

-- a draft with n decisions in force: it is good, and so is the draft that each take back leads to
abbrev pub Ledger : List Rule → List ℕ → ℕ → State → Type 0
Ledger rules opening zero s = (length s.taken ≡ 0) × Good rules opening s
Ledger rules opening (suc n) s = (length s.taken ≡ suc n) × ((latest_mark s ≤ length s.strikes) × (Good rules opening s × Ledger rules opening n (take_back s)))

module _ (rules : List Rule) (opening : List ℕ) where
  pub good_of : (n : ℕ) (s : State) → Ledger rules opening n s → Good rules opening s
  good_of zero s l = l.1
  good_of (suc n) s l = l.1.1.0

  count_of : (n : ℕ) (s : State) → Ledger rules opening n s → length s.taken ≡ n
  count_of zero s l = l.0
  count_of (suc n) s l = l.0

  pub start : Accepted rules opening → Ledger rules opening 0 (opened opening)
  start ok = (
    refl,
    record {
      same = refl;
      struck = refl;
      inside = λ x a t. and_T _ _ t tt;
      whole = λ p ac w x a t. T_left (part opening x a) true (w x a t);
      filled = ok.filled;
      fit = ok.fit;
    },
  )

  -- a settle

  good_settled : (s : State) (found : List Strike) (after : List ℕ) → Good rules opening s
      → Struck rules (decisions s.taken) s.standing found after → Largest rules (part s.standing) (part after) → ((x : ℕ) → x < length after → 0 < get_or after x 0)
      → Good rules opening (settled s found after)
  good_settled s found after g k m f = record {
    same = g.same;
    struck = struck_append rules (decisions s.taken) s.opening s.strikes found s.standing after g.struck k;
    inside = λ x a t. let q = m.all x a t in g.inside x a (q.1.0 x a q.1.1.1);
    whole = λ p ac w x a t. m.only x a (p, (g.whole p ac w, (ac, t)));
    filled = f;
    fit = struck_fit rules (decisions s.taken) (2 ^ option_limit) s.standing found after k g.fit;
  }

  same_back : (s : State) (found : List Strike) (after : List ℕ) → latest_mark s ≤ length s.strikes → take_back (settled s found after) ≡ take_back s
  same_back s found after h =
      ap (λ (kept : List Strike). let r : State = record { opening = s.opening; taken = take (length s.taken - 1) s.taken; strikes = kept; standing = left_by s.opening kept } in r)
      (take-append-le (latest_mark s) s.strikes found h)

  settle : (n : ℕ) (s : State) (found : List Strike) (after : List ℕ) → Ledger rules opening n s → Good rules opening (settled s found after) → Ledger rules opening n (settled s found after)
  settle zero s found after l g = (l.0, g)
  settle (suc n) s found after l g =
      (l.0, (simp length-append (let h = l.1.0 in omega arith), (g, subst (Ledger rules opening n) (sym (same_back s found after l.1.0)) l.1.1.1)))

  -- a decision

  pushed_at : (ts : List Taken) (t : Taken) → length (ts ++ (t ∷ [])) - 1 ≡ length ts
  pushed_at ts t = omega (arith, length_push ts t)

  new_mark : (s : State) (d : Decision) (found : List Strike) (after : List ℕ) → latest_mark (decide s d found after) ≡ length s.strikes
  new_mark s d found after =
      let t : Taken = record { decision = d; mark = length s.strikes } in
      ap (λ (u : Taken). u.mark) (get_or_push s.taken t no_decision _ (sym (pushed_at s.taken t)))

  back_again : (s : State) (d : Decision) (found : List Strike) (after : List ℕ) → Good rules opening s → take_back (decide s d found after) ≡ s
  back_again s d found after g =
      let t : Taken = record { decision = d; mark = length s.strikes } in
      let cut : take (latest_mark (decide s d found after)) (s.strikes ++ found) ≡ s.strikes = take_at s.strikes found _ (sym (new_mark s d found after)) in
      let before : take (length (s.taken ++ (t ∷ [])) - 1) (s.taken ++ (t ∷ [])) ≡ s.taken = take_at s.taken (t ∷ []) _ (sym (pushed_at s.taken t)) in
      let stood : left_by s.opening (take (latest_mark (decide s d found after)) (s.strikes ++ found)) ≡ s.standing =
      ap (left_by s.opening) cut ∙ sym (struck_left rules (decisions s.taken) s.opening s.strikes s.standing g.struck) in
      λ i. record { opening = s.opening; taken = before i; strikes = cut i; standing = stood i }

  decided : (n : ℕ) (s : State) (d : Decision) (found : List Strike) (after : List ℕ) → Ledger rules opening n s → Good rules opening (decide s d found after) → Ledger rules opening (suc n) (decide s d found after)
  decided n s d found after l g = (
    simp length_push (let h = count_of n s l in omega arith),
    (rw (new_mark s d found after) (simp length-append (omega arith)), (g, subst (Ledger rules opening n) (sym (back_again s d found after (good_of n s l))) l)),
  )

  pushed : (ts : List Taken) (t : Taken) → decisions (ts ++ (t ∷ [])) ≡ decisions ts ++ (t.decision ∷ [])
  pushed ts t = map-append (λ u. u.decision) ts (t ∷ [])

  new_force : (ts : List Taken) (t : Taken) → InForce (decisions (ts ++ (t ∷ []))) t.decision
  new_force ts t =
      subst (λ ds. InForce ds t.decision) (sym (pushed ts t))
      (length (decisions ts), (omega (arith, length_push (decisions ts) t.decision), λ e. get_or_push (decisions ts) t.decision e (length (decisions ts)) refl))

  old_force : (ts : List Taken) (t : Taken) (d : Decision) → InForce (decisions ts) d → InForce (decisions (ts ++ (t ∷ []))) d
  old_force ts t d h = subst (λ ds. InForce ds d) (sym (pushed ts t)) (in_force_more (decisions ts) (t.decision ∷ []) d h)

  good_chosen : (s : State) (x a : ℕ) → Good rules opening s → a < option_limit → T (part s.standing x a)
      → Good rules opening (decide s (decision.Choose x a) (choose_strikes (get_or s.standing x 0) x a) (set s.standing x (2 ^ a)))
  good_chosen s x a g small here =
      let t : Taken = record { decision = decision.Choose x a; mark = length s.strikes } in
      let within = is_field s.standing x a here in
      record {
        same = g.same;
        struck = struck_append rules (decisions (s.taken ++ (t ∷ []))) s.opening s.strikes _ s.standing _
            (struck_more rules (decisions s.taken) (decisions (s.taken ++ (t ∷ []))) (old_force s.taken t) s.opening s.strikes s.standing g.struck)
            (choose_struck rules (decisions (s.taken ++ (t ∷ []))) x a (new_force s.taken t) s.standing here (g.fit x));
        inside = λ y b k. ⊎_elim
            (λ e.
            let k' : T (has (2 ^ a) b) = subst T (ap (λ z. part (set s.standing x (2 ^ a)) z b) e ∙ part_same s.standing x (2 ^ a) b within) k in
            let is : b ≡ a = eqb→eq b a (subst T (has_pow a b) k') in
            let now : T (part s.standing y b) = subst T (sym (ap (λ z. part s.standing z b) e ∙ ap (part s.standing x) is)) here in
            under_more s.opening s.taken t y b (g.inside y b now)
            (T_yes _ (ap (λ v. cond v (eqb b a) true) (eq-eqb y x e) ∙ eq-eqb b a is)))
            (λ n.
            under_more s.opening s.taken t y b (g.inside y b (subst T (part_other s.standing x (2 ^ a) y b n) k))
            (T_yes _ (ap (λ v. cond v (eqb b a) true) (ne_eqb y x n))))
            (cases_eq y x);
        whole = λ p ac w y b k.
            let stood = g.whole p ac (λ z c j. under_less s.opening s.taken t z c (w z c j)) y b k in
            let let-stand = under_new s.opening s.taken t y b (w y b k) in
            ⊎_elim
            (λ e. subst T (sym (ap (λ z. part (set s.standing x (2 ^ a)) z b) e ∙ part_same s.standing x (2 ^ a) b within ∙ has_pow a b))
            (subst T (ap (λ v. cond v (eqb b a) true) (eq-eqb y x e)) let-stand))
            (λ n. subst T (sym (part_other s.standing x (2 ^ a) y b n)) stood)
            (cases_eq y x);
        filled = filled_set s.standing x (2 ^ a) g.filled (pow_pos a);
        fit = fit_set s.standing x (2 ^ a) (2 ^ option_limit) g.fit (pow_below a option_limit small);
      }

  good_excluded : (s : State) (x a : ℕ) → Good rules opening s → T (part s.standing x a) → (get_or s.standing x 0 ≡ 2 ^ a → ⊥)
      → Good rules opening (decide s (decision.Exclude x a) (exclude_strike x a ∷ []) (without s.standing x a))
  good_excluded s x a g here more =
      let t : Taken = record { decision = decision.Exclude x a; mark = length s.strikes } in
      let within = is_field s.standing x a here in
      record {
        same = g.same;
        struck = struck_append rules (decisions (s.taken ++ (t ∷ []))) s.opening s.strikes _ s.standing _
            (struck_more rules (decisions s.taken) (decisions (s.taken ++ (t ∷ []))) (old_force s.taken t) s.opening s.strikes s.standing g.struck)
            (here, ((new_force s.taken t, ap (λ v. not (v && eqb a a)) (eq-eqb x x refl) ∙ ap not (eq-eqb a a refl)), refl));
        inside = λ y b k.
            let k' = subst T (part_without s.standing x a y b here) k in
            under_more s.opening s.taken t y b (g.inside y b (T_left (part s.standing y b) _ k')) (T_right (part s.standing y b) _ k');
        whole = λ p ac w y b k.
            subst T (sym (part_without s.standing x a y b here))
            (and_T _ _ (g.whole p ac (λ z c j. under_less s.opening s.taken t z c (w z c j)) y b k) (under_new s.opening s.taken t y b (w y b k)));
        filled = filled_set s.standing x _ g.filled (let h = has_le (get_or s.standing x 0) a here in omega arith);
        fit = fit_without s.standing x a (2 ^ option_limit) g.fit;
      }

  -- a call

  step_cases : (s : State) (c : Call) (answer : Outcome) (s' : State) → Step rules s c answer s' → (s' ≡ s) ⊎ ((refusal s c ≡ None) × Does rules s c answer s')
  step_cases s c answer s' h = go (refusal s c) refl h
    where
      go : (o : Option EngineFault) → refusal s c ≡ o → elim o as (λ (q : Option EngineFault). Type 0) [ Some why ↦ (answer ≡ Err why) × (s' ≡ s) | None ↦ Does rules s c answer s' ] → (s' ≡ s) ⊎ ((refusal s c ≡ None) × Does rules s c answer s')
      go (Some why) e k = inl k.1
      go None e k = inr (e, k)

  not_refused : (b : Bool) (why : EngineFault) (o : Option EngineFault) → cond b (Some why) o ≡ None → (b ≡ false) × (o ≡ None)
  not_refused true why o e = (let z : ◌≡◌ {A = Bool} true false = cc in z, cc)
  not_refused false why o e = (refl, e)

  does : (n : ℕ) (s : State) (c : Call) (answer : Outcome) (s' : State) → Ledger rules opening n s → refusal s c ≡ None → Does rules s c answer s' → (m : ℕ) × Ledger rules opening m s'
  does n s (call.Choose x a) answer s' l e h =
      let p = not_refused _ OutOfRange _ e in
      let q = not_refused _ NotStanding _ p.1 in
      let range = and_parts (ltb x (length s.opening)) (ltb a option_limit) (not-false _ p.0) in (
        suc n,
        subst (Ledger rules opening (suc n)) (sym h.1)
            (decided n s _ _ _ l (good_chosen s x a (good_of n s l) (ltb-true a option_limit range.1) (T_yes _ (not-false _ q.0)))),
      )
  does n s (call.Exclude x a) answer s' l e h =
      let p = not_refused _ OutOfRange _ e in
      let q = not_refused _ NotStanding _ p.1 in
      let r = not_refused _ LastOption _ q.1 in (
        suc n,
        subst (Ledger rules opening (suc n)) (sym h.1)
            (decided n s _ _ _ l (good_excluded s x a (good_of n s l) (T_yes _ (not-false _ q.0)) (eqb-false _ _ r.0))),
      )
  does n s call.Settle answer s' l e (done found after ok k m f a is) =
      (n, subst (Ledger rules opening n) (sym is) (settle n s found after l (good_settled s found after (good_of n s l) k m f)))
  does n s call.Settle answer s' l e (wiped x r ok h k b a is) = (n, subst (Ledger rules opening n) (sym is) l)
  does n s call.Settle answer s' l e (unfit refused a is) = (n, subst (Ledger rules opening n) (sym is) l)
  does zero s call.TakeBack answer s' l e h = absurd (eqb-false _ _ (not_refused _ NoDecision _ e).0 l.0)
  does (suc n) s call.TakeBack answer s' l e h = (n, subst (Ledger rules opening n) (sym h.1) l.1.1.1)
  does n s (call.Show x) answer s' l e h = (n, subst (Ledger rules opening n) (sym h.1) l)

  pub ledger_of : Accepted rules opening → (h : List Event) (s : State) → Run rules (opened opening) h s → (n : ℕ) × Ledger rules opening n s
  ledger_of ok [] s r = (0, subst (Ledger rules opening 0) (sym r) (start ok))
  ledger_of ok (e ∷ before) s r =
      let l = ledger_of ok before r.0 r.1.0 in
      ⊎_elim
      (λ is. (l.0, subst (Ledger rules opening l.0) (sym is) l.1))
      (λ k. does l.0 r.0 e.asked e.answered s l.1 k.0 k.1)
      (step_cases r.0 e.asked e.answered s r.1.1)

  pub good_after : Accepted rules opening → (h : List Event) (s : State) → Run rules (opened opening) h s → Good rules opening s
  good_after ok h s r = let l = ledger_of ok h s r in good_of l.0 s l.1
