-- The scopes that are placed so far, and one more.
use Rattle.std.proofs.Common.{◌≡◌, ℕ, zero, suc, ◌+◌, ◌<◌, ◌≤◌, Bool, true, false, not, List, [], ◌∷◌, length, get_or, set, replicate, Some, None, sym, refl, ap, ◌∙◌, inl, inr, arith, get_or-set_other, get_or-set_same}
use Rattle.std.proofs.lemmas.List.{length-set, get_or-replicate, get_or_past}
use Rattle.std.proofs.lemmas.Bool.{cases_eq, cases_lt, both_ways, not-true}
use Rattle.model.specs.Graph.{Scope}
use Rattle.model.specs.Rules.{Calls, Reaches, directly, Ring}
use Rattle.rules.specs.CallOrders.{CalledFirst, Row, Next}
use Rattle.rules.proofs.Rings.{leads_to_itself, reaches_join}
use Rattle.rules.proofs.Rows.{filled_more}

-- how many are true
abbrev pub trues : List Bool → ℕ
trues [] = 0
trues (true ∷ bs) = suc (trues bs)
trues (false ∷ bs) = trues bs

pub trues_more : (bs : List Bool) (k : ℕ) → k < length bs → get_or bs k false ≡ false → trues (set bs k true) ≡ suc (trues bs)
trues_more [] k h e = absurd (omega arith)
trues_more (false ∷ bs) zero h e = refl
trues_more (true ∷ bs) zero h e = let z : ◌≡◌ {A = ℕ} 0 1 = cc in absurd (omega arith)
trues_more (true ∷ bs) (suc k) h e = ap suc (trues_more bs k (omega arith) e)
trues_more (false ∷ bs) (suc k) h e = trues_more bs k (omega arith) e

-- with fewer than n, one below n is not true
pub some_false : (bs : List Bool) (n : ℕ) → trues bs < n → (k : ℕ) × (k < n) × (get_or bs k false ≡ false)
some_false [] n h = (0, omega arith, refl)
some_false (b ∷ bs) zero h = absurd (omega arith)
some_false (false ∷ bs) (suc n) h = (0, omega arith, refl)
some_false (true ∷ bs) (suc n) h = let w = some_false bs n (omega arith) in (suc w.0, omega (arith, w.1), w.2)

-- with none from n on there are at most n, and if there are n, then all below n
at_most : (bs : List Bool) (n : ℕ) → ((k : ℕ) → get_or bs k false ≡ true → k < n) → trues bs ≤ n
at_most [] n h = omega arith
at_most (true ∷ bs) zero h = absurd (omega (arith, h 0 refl))
at_most (true ∷ bs) (suc n) h = let r = at_most bs n (λ k e. omega (arith, h (suc k) e)) in omega arith
at_most (false ∷ bs) zero h = at_most bs zero (λ k e. omega (arith, h (suc k) e))
at_most (false ∷ bs) (suc n) h = let r = at_most bs n (λ k e. omega (arith, h (suc k) e)) in omega arith

pub all_true : (bs : List Bool) (n k : ℕ) → ((j : ℕ) → get_or bs j false ≡ true → j < n) → trues bs ≡ n → k < n → get_or bs k false ≡ true
all_true [] n k h e b = absurd (omega arith)
all_true (x ∷ bs) zero k h e b = absurd (omega arith)
all_true (true ∷ bs) (suc n) zero h e b = refl
all_true (true ∷ bs) (suc n) (suc k) h e b = all_true bs n k (λ j x. omega (arith, h (suc j) x)) (omega arith) (omega arith)
all_true (false ∷ bs) (suc n) k h e b = let r = at_most bs n (λ j x. omega (arith, h (suc j) x)) in absurd (omega arith)

-- the first n entries of the order are placed, each after those that it calls
pub record Placing (g : List Scope) (order : List ℕ) (placed : List Bool) (n : ℕ) : Type 0 where
  pub orders : length order ≡ 16
  pub places : length placed ≡ 16
  pub count : trues placed ≡ n
  pub within : (k : ℕ) → k < n → get_or order k 0 < length g
  pub marked : (k : ℕ) → k < n → get_or placed (get_or order k 0) false ≡ true
  pub has : (s : ℕ) → get_or placed s false ≡ true → (k : ℕ) × (k < n) × (get_or order k 0 ≡ s)
  pub once : (k l : ℕ) → k < n → l < n → get_or order k 0 ≡ get_or order l 0 → k ≡ l
  pub before : (k t : ℕ) → k < n → t < length g → Calls g (get_or order k 0) t → (l : ℕ) × (l < k) × (get_or order l 0 ≡ t)

unmarked : (s : ℕ) → get_or (replicate 16 false) s false ≡ true → ⊥
unmarked s e = elim (cases_lt s 16) [
  | inl h ↦ both_ways _ (get_or-replicate 16 s false false h) e
  | inr h ↦ both_ways _ (get_or_past (replicate 16 false) s false h) e
]

pub placing_none : (g : List Scope) → Placing g (replicate 16 0) (replicate 16 false) 0
placing_none g =
    record {
      orders = refl;
      places = refl;
      count = refl;
      within = λ k h. absurd (omega arith);
      marked = λ k h. absurd (omega arith);
      has = λ s e. absurd (unmarked s e);
      once = λ k l h. absurd (omega arith);
      before = λ k t h. absurd (omega arith);
    }

-- scope s is not placed, and those that it calls are: it is placed next
module _ (g : List Scope) (order : List ℕ) (placed : List Bool) (n s : ℕ) (o : Placing g order placed n) (room : n < 16) (is : s < length g) (fits : s < 16) (new : get_or placed s false ≡ false) (calls : (t : ℕ) → t < length g → Calls g s t → get_or placed t false ≡ true) where
  here : get_or (set order n s) n 0 ≡ s
  here = get_or-set_same order n s 0 (omega (arith, o.orders))

  old : (k : ℕ) → k < n → get_or (set order n s) k 0 ≡ get_or order k 0
  old k h = get_or-set_other order n k s 0 (λ e. omega arith)

  mark : (t : ℕ) → get_or placed t false ≡ true → get_or (set placed s true) t false ≡ true
  mark t e = elim (cases_eq t s) [
    | inl q ↦ absurd (both_ways _ new (ap (λ z. get_or placed z false) (sym q) ∙ e))
    | inr q ↦ get_or-set_other placed s t true false q ∙ e
  ]

  marks : get_or (set placed s true) s false ≡ true
  marks = get_or-set_same placed s true false (omega (arith, o.places))

  -- every entry is an old one or the new one
  by_place : (P : ℕ → ℕ → Type 0) → ((k : ℕ) → k < n → P k (get_or order k 0)) → P n s → (k : ℕ) → k < n + 1 → P k (get_or (set order n s) k 0)
  by_place P = filled_more P order n s 0 (omega (arith, o.orders))

  fresh : (k : ℕ) → k < n → get_or order k 0 ≡ s → ⊥
  fresh k h e = both_ways _ new (ap (λ z. get_or placed z false) (sym e) ∙ o.marked k h)

  only : (k l : ℕ) → k < n + 1 → l < n + 1 → get_or (set order n s) k 0 ≡ get_or (set order n s) l 0 → k ≡ l
  only k l h i e =
      elim (cases_eq k n) [
        | inl p ↦
            elim (cases_eq l n) [
              | inl q ↦ p ∙ sym q
              | inr q ↦ absurd (fresh l (omega arith) (sym (old l (omega arith)) ∙ sym e ∙ ap (λ z. get_or (set order n s) z 0) p ∙ here))
            ]
        | inr p ↦
            elim (cases_eq l n) [
              | inl q ↦ absurd (fresh k (omega arith) (sym (old k (omega arith)) ∙ e ∙ ap (λ z. get_or (set order n s) z 0) q ∙ here))
              | inr q ↦ o.once k l (omega arith) (omega arith) (sym (old k (omega arith)) ∙ e ∙ old l (omega arith))
            ]
      ]

  pub placing_more : Placing g (set order n s) (set placed s true) (n + 1)
  placing_more =
      record {
        orders = length-set order n s ∙ o.orders;
        places = length-set placed s true ∙ o.places;
        count = trues_more placed s (omega (arith, o.places)) new ∙ omega (arith, o.count);
        within = by_place (λ _ x. x < length g) o.within is;
        marked = by_place (λ _ x. get_or (set placed s true) x false ≡ true) (λ k h. mark (get_or order k 0) (o.marked k h)) marks;
        has = λ t e. elim (cases_eq t s) [
          | inl q ↦ (n, omega arith, here ∙ sym q)
          | inr q ↦ let w = o.has t (sym (get_or-set_other placed s t true false q) ∙ e) in (w.0, omega (arith, w.1), old w.0 w.1 ∙ w.2)
        ];
        once = only;
        before = λ k t h i c. by_place (λ j x. Calls g x t → (l : ℕ) × (l < j) × (get_or (set order n s) l 0 ≡ t))
            (λ j b d. let w = o.before j t b i d in (w.0, w.1, old w.0 (omega (arith, w.1)) ∙ w.2))
            (λ d. let w = o.has t (calls t i d) in (w.0, w.1, old w.0 w.1 ∙ w.2)) k h c;
      }

-- the table tells the calls of each scope: the next one is placed
pub placing_next : (g : List Scope) (order : List ℕ) (placed : List Bool) (table : List (List Bool)) (scopes n s : ℕ) → scopes ≡ length g → scopes ≤ 16 → ((i : ℕ) → i < scopes → Row g i (get_or table i [])) → Placing g order placed n → n < scopes → Next table placed scopes (Some s) → Placing g (set order n s) (set placed s true) (n + 1)
placing_next g order placed table scopes n s e small rows o h next =
    placing_more g order placed n s o (omega arith) (omega (arith, next.0)) (omega (arith, next.0)) next.1 (λ t b c. next.2 t (omega arith) ((rows s next.0 t (omega arith)).1 c))

-- all are placed
pub placing_all : (g : List Scope) (order : List ℕ) (placed : List Bool) (n : ℕ) → n ≡ length g → Placing g order placed n → CalledFirst g order
placing_all g order placed n e o =
    let below : (s : ℕ) → get_or placed s false ≡ true → s < length g = λ s m. let w = o.has s m in let i = o.within w.0 w.1 in omega (arith, w.2) in
    record {
      within = λ k h. o.within k (omega arith);
      placed = λ s h. let w = o.has s (all_true placed (length g) s below (o.count ∙ e) h) in (w.0, omega (arith, w.1), w.2);
      once = λ k l h i. o.once k l (omega arith) (omega arith);
      before = λ k t h. o.before k t (omega arith);
    }

-- not all are placed, and each that is not calls another such: so there is a ring
pub blocked_ring : (g : List Scope) (order : List ℕ) (placed : List Bool) (table : List (List Bool)) (scopes n : ℕ) → scopes ≤ 16 → ((i : ℕ) → i < scopes → Row g i (get_or table i [])) → Placing g order placed n → n < scopes → Next table placed scopes None → Ring g
blocked_ring g order placed table scopes n small rows o h blocked =
    let u = some_false placed scopes (omega (arith, o.count)) in
    leads_to_itself (Reaches g) (reaches_join g) (λ s. not (get_or placed s false)) scopes u.0 u.1 (ap not u.2) (λ a b x.
    let w = blocked a b (not-true _ x) in (w.0, w.1, ap not w.3, directly ((rows a b w.0 (omega (arith, w.1))).0 w.2)))
