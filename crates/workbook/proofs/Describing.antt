-- What was tried is what the call is described to answer and to leave.
use Rattle.std.proofs.Common.{◌≡◌, ℕ, zero, suc, ◌<◌, ◌≤◌, Bool, true, false, cond, ltb, List, [], ◌∷◌, length, Some, None, Ok, Err, Option, Result, sym, refl, ap, ◌∙◌, subst, inl, inr, arith}
use Rattle.std.specs.List.{slice_get}
use Rattle.std.proofs.lemmas.Bool.Decides.{nat_tests}
use Rattle.model.specs.declared.graph.Node.TheVariants.{Block, Call}
use Rattle.model.specs.declared.refusal.Refusal.{Refusal}
use Rattle.model.specs.declared.refusal.Refusal.TheVariants.{TooShort, BadVersion, BadLength, BadRecord, UnknownKind, UnknownScope, NoScope, OverLimit, BadPasses, BadFigure, Missing, NotForward, NegativeWeight, CallRing, BadFact, NotABlock, NoFact, ShortWork, ShortTrail, NoRun}
use Rattle.model.specs.Changes.{all_but_last, figured, with_nodes, with_facts, with_figures}
use Rattle.model.specs.Graph.{Scope, in_scope, node_at, fact_count_lem}
use Rattle.model.specs.Numbers.{number}
use Rattle.model.specs.Rules.{SomeIn, Absent, Reaches, Breaks, FirstBroken, Keeps, KeepsFrom}
use Rattle.model.specs.Rules.Reaches.{directly, through}
use Rattle.model.proofs.Bests.{none_some, some_same}
use Rattle.workbook.specs.declared.edit.Edit.{Edit}
use Rattle.workbook.specs.declared.edit.Edit.TheVariants.{SetFigures, Strike}
use Rattle.workbook.specs.Calls.{changed, Nowhere, Own, Meets, number_given, Described, numbered, unnumbered}
use Rattle.workbook.specs.Calls.Described.{nowhere, refused, taken}
use Rattle.workbook.specs.Tries.{Tried, Added}
use Rattle.workbook.proofs.Lists.{change_past, change_same}
use Rattle.workbook.proofs.Undo.{nth_change, past}

-- a scope that is asked and is there, or is not
pub there : {A : Type 0} (g : List Scope) (s : ℕ) (f : Scope → A) (a : A) → in_scope (slice_get g s) (λ x. Some (f x)) ≡ Some a → (x : Scope) × (slice_get g s ≡ Some x) × (f x ≡ a)
there g s f a e = go (slice_get g s) refl
  where
    go : (o : Option Scope) → slice_get g s ≡ o → (x : Scope) × (slice_get g s ≡ Some x) × (f x ≡ a)
    go None h = absurd (none_some (sym (ap (λ o. in_scope o (λ x. Some (f x))) h) ∙ e))
    go (Some x) h = (x, h, some_same (sym (ap (λ o. in_scope o (λ y. Some (f y))) h) ∙ e))

pub not_there : {A : Type 0} (g : List Scope) (s : ℕ) (f : Scope → A) → in_scope (slice_get g s) (λ x. Some (f x)) ≡ None → Absent g s
not_there g s f e = go (slice_get g s) refl
  where
    go : (o : Option Scope) → slice_get g s ≡ o → Absent g s
    go None h = past s g h
    go (Some x) h = absurd (none_some (sym e ∙ ap (λ o. in_scope o (λ y. Some (f y))) h))

pub present : (g : List Scope) (s : ℕ) (x : Scope) → slice_get g s ≡ Some x → Absent g s → ⊥
present [] s x e h = none_some e
present (y ∷ g) zero x e h = omega arith
present (y ∷ g) (suc s) x e h = present g s x e (omega arith)

-- a scope below the count is there
pub at_below : (g : List Scope) (s : ℕ) → s < length g → (x : Scope) × (slice_get g s ≡ Some x)
at_below [] s h = absurd (omega arith)
at_below (x ∷ g) zero h = (x, refl)
at_below (x ∷ g) (suc s) h = at_below g s (omega arith)

-- the call's own refusals are then broken rules of the changed graph
module _ (g : List Scope) (e : Edit) (somewhere : Nowhere g e → ⊥) (own : (x : Refusal) → Own g e x → Breaks (changed g e) x) where
  breaks : (x : Refusal) → Meets g e x → Breaks (changed g e) x
  breaks x (inl b) = b
  breaks x (inr o) = own x o

  pub described_taken : (n : Option ℕ) (h : List Scope) → n ≡ number_given g e → Keeps (changed g e) → h ≡ changed g e → Described g e (Ok n) h
  described_taken n h p k q =
      subst (λ (m : Option ℕ). Described g e (Ok m) h) (sym p) (subst (λ (z : List Scope). Described g e (Ok (number_given g e)) z) (sym q) (taken somewhere (λ x m. k x (breaks x m))))

  pub described_refused : (x : Refusal) (h : List Scope) → FirstBroken (changed g e) x → h ≡ g → Described g e (Err x) h
  described_refused x h b q =
      subst (λ (z : List Scope). Described g e (Err x) z) (sym q) (refused somewhere (record { met = inl b.broken; smallest = λ y l m. b.smallest y l (breaks y m) }))

  -- an addition that was tried, and a setting
  pub described_added : (n : ℕ) (r : Result ℕ Refusal) (h : List Scope) → Some n ≡ number_given g e → Added g (changed g e) (Some n) r h → Described g e (numbered r) h
  described_added n (Ok m) h p ((k, q), i) = described_taken (Some m) h (ap Some i ∙ p) k q
  described_added n (Err x) h p ((b, q), i) = described_refused x h b q

  pub described_set : (tried : Result (Unit {0}) Refusal) (h : List Scope) → None ≡ number_given g e → Tried g (changed g e) tried h → Described g e (unnumbered tried) h
  described_set (Ok u) h p (k, q) = described_taken None h p k q
  described_set (Err x) h p (b, q) = described_refused x h b q

pub described_nowhere : (g : List Scope) (e : Edit) (h : List Scope) → Nowhere g e → h ≡ g → Described g e (Err Missing) h
described_nowhere g e h w q = subst (λ (z : List Scope). Described g e (Err Missing) z) (sym q) (nowhere w)

-- an addition in a scope that is counted
pub described_in : (g : List Scope) (s : ℕ) (f : Scope → ℕ) (e : Edit) (n : Option ℕ) (r : Result ℕ Refusal) (h : List Scope) → n ≡ in_scope (slice_get g s) (λ x. Some (f x)) → n ≡ number_given g e →
    (Absent g s → Nowhere g e) → (Nowhere g e → Absent g s) → ((x : Refusal) → Own g e x → ⊥) → Added g (changed g e) n r h → Described g e (numbered r) h
described_in g s f e None r h i p within out own (m, q) = subst (λ (z : Result ℕ Refusal). Described g e (numbered z) h) (sym m) (described_nowhere g e h (within (not_there g s f (sym i))) q)
described_in g s f e (Some n) r h i p within out own a =
    let w = there g s f n (sym i) in
    described_added g e (λ z. present g s w.0 w.1 (out z)) (λ x o. absurd (own x o)) n r h p a

-- a graph with a scope that keeps the rules from 22 on keeps them all
keeps_all : (g : List Scope) → (length g ≡ 0 → ⊥) → KeepsFrom 22 g → Keeps g
keeps_all g some kept TooShort b = b
keeps_all g some kept BadVersion b = b
keeps_all g some kept BadLength b = b
keeps_all g some kept BadRecord b = b
keeps_all g some kept UnknownKind b = b
keeps_all g some kept UnknownScope b = b
keeps_all g some kept NoScope b = some b
keeps_all g some kept OverLimit b = kept OverLimit (omega arith) b
keeps_all g some kept BadPasses b = kept BadPasses (omega arith) b
keeps_all g some kept BadFigure b = kept BadFigure (omega arith) b
keeps_all g some kept Missing b = kept Missing (omega arith) b
keeps_all g some kept NotForward b = kept NotForward (omega arith) b
keeps_all g some kept NegativeWeight b = kept NegativeWeight (omega arith) b
keeps_all g some kept CallRing b = kept CallRing (omega arith) b
keeps_all g some kept BadFact b = kept BadFact (omega arith) b
keeps_all g some kept NotABlock b = b
keeps_all g some kept NoFact b = b
keeps_all g some kept ShortWork b = b
keeps_all g some kept ShortTrail b = b
keeps_all g some kept NoRun b = b

none_in : {A : Type 0} {P : A → Type 0} → SomeIn [] P → ⊥
none_in (k, x, e, p) = none_some e

no_calls : (i j : ℕ) → Reaches [] i j → ⊥
no_calls i j (directly w) = none_some w.1
no_calls i j (through w r) = none_some w.1

-- a workbook begins without scopes
pub none_kept : KeepsFrom 22 []
none_kept TooShort h b = b
none_kept BadVersion h b = b
none_kept BadLength h b = b
none_kept BadRecord h b = b
none_kept UnknownKind h b = b
none_kept UnknownScope h b = b
none_kept NoScope h b = omega arith
none_kept OverLimit h (inl b) = omega arith
none_kept OverLimit h (inr b) = none_in b
none_kept BadPasses h b = none_in b
none_kept BadFigure h b = none_in b
none_kept Missing h b = none_in b
none_kept NotForward h b = none_in b
none_kept NegativeWeight h b = none_in b
none_kept CallRing h (i, r) = no_calls i i r
none_kept BadFact h b = none_in b
none_kept NotABlock h b = b
none_kept NoFact h b = b
none_kept ShortWork h b = b
none_kept ShortTrail h b = b
none_kept NoRun h b = b

-- a call that changes nothing and is refused for a reason of its own
own_refused : (g : List Scope) (kept : KeepsFrom 22 g) (s : ℕ) (x : Scope) → slice_get g s ≡ Some x → (e : Edit) → (Nowhere g e → ⊥) → changed g e ≡ g → (r : Refusal) → Own g e r →
    ((y : Refusal) → number y < number r → Own g e y → ⊥) → (h : List Scope) → h ≡ g → Described g e (Err r) h
own_refused g kept s x is e somewhere same r o least h q =
    subst (λ (z : List Scope). Described g e (Err r) z) (sym q) (refused somewhere (record { met = inr o; smallest = small }))
  where
    some : length g ≡ 0 → ⊥
    some z = present g s x is (omega arith)

    small : (y : Refusal) → number y < number r → Meets g e y → ⊥
    small y l (inl b) = keeps_all g some kept y (subst (λ (z : List Scope). Breaks z y) same b)
    small y l (inr w) = least y l w

no_facts : {A : Type 0} (fs : List A) → length fs ≡ 0 → all_but_last fs ≡ fs
no_facts [] h = refl
no_facts (f ∷ fs) h = absurd (omega arith)

module _ (g : List Scope) (kept : KeepsFrom 22 g) (s : ℕ) (x : Scope) (is : slice_get g s ≡ Some x) where
  in_scope_is : {A : Type 0} (f : Scope → Option A) (a : Option A) → in_scope (slice_get g s) f ≡ a → f x ≡ a
  in_scope_is f a e = sym (ap (λ o. in_scope o f) is) ∙ e

  somewhere : Absent g s → ⊥
  somewhere = present g s x is

  -- a strike where there is no fact
  pub strike_none : length x.facts ≡ 0 → (h : List Scope) → h ≡ g → Described g (Strike s) (Err NoFact) h
  strike_none z h q =
      let same : changed g (Strike s) ≡ g = change_same s (λ y. with_facts (all_but_last y.facts) y) g x is (ap (λ fs. with_facts fs x) (no_facts x.facts z)) in
      let count : fact_count_lem g s ≡ Some 0 = ap (λ o. in_scope o (λ y. Some (length y.facts))) is ∙ ap Some z in
      own_refused g kept s x is (Strike s) somewhere same NoFact (refl, count) (λ y l w. let e = ap number w.0 in omega (arith, e)) h q

  pub strike_own : (0 < length x.facts) → (y : Refusal) → Own g (Strike s) y → Breaks (changed g (Strike s)) y
  strike_own h y (e, z) = let c = some_same (in_scope_is (λ v. Some (length v.facts)) (Some 0) z) in absurd (omega arith)

  module _ (n t k : ℕ) where
    -- figures for a block: what the call meets of its own is a rule that the changed graph breaks
    pub block_own : (a b : ℕ) → node_at g s n ≡ Some (Block a b) → (y : Refusal) → Own g (SetFigures s n t k) y → Breaks (changed g (SetFigures s n t k)) y
    block_own a b at y (inl (e, h)) =
        let here : slice_get x.nodes n ≡ Some (Block a b) = in_scope_is (λ v. slice_get v.nodes n) (Some (Block a b)) at in
        subst (Breaks (changed g (SetFigures s n t k))) (sym e) (s, with_figures n t k x, nth_change s (with_figures n t k) g x is, inl (n, Block t k, nth_change n (figured t k) x.nodes (Block a b) here, h))
    block_own a b at y (inr (inl (e, h))) = absurd (none_some (sym h ∙ at))
    block_own a b at y (inr (inr (e, (c, h)))) = let z : ◌≡◌ {A = ℕ} 0 1 = cc (some_same (sym h ∙ at)) in absurd (omega arith)

    figures_same : with_figures n t k x ≡ x → changed g (SetFigures s n t k) ≡ g
    figures_same e = change_same s (with_figures n t k) g x is e

    abbrev Judge : Bool → Refusal → Refusal
    Judge b r = cond b BadFigure r

    -- figures for a node that does not exist
    pub figures_missing : node_at g s n ≡ None → (r : Refusal) → r ≡ cond (ltb 1000000 t) BadFigure Missing → (h : List Scope) → h ≡ g → Described g (SetFigures s n t k) (Err r) h
    figures_missing at r j h q = go (ltb 1000000 t) refl
      where
        same : changed g (SetFigures s n t k) ≡ g
        same = figures_same (ap (λ ns. with_nodes ns x) (change_past n (figured t k) x.nodes (past n x.nodes (in_scope_is (λ v. slice_get v.nodes n) None at))))

        least : (m : ℕ) → number r ≤ m → ((y : Refusal) → number y < number r → y ≡ BadFigure → 1000000 < t → ⊥) → m ≤ 25 → (y : Refusal) → number y < number r → Own g (SetFigures s n t k) y → ⊥
        least m a f b y l (inl (e, w)) = f y l e w
        least m a f b y l (inr (inl (e, w))) = let d = ap number e in omega (arith, d)
        least m a f b y l (inr (inr (e, w))) = let d = ap number e in omega (arith, d)

        go : (b : Bool) → ltb 1000000 t ≡ b → Described g (SetFigures s n t k) (Err r) h
        go true l =
            let over : 1000000 < t = grind (arith, nat_tests) in
            let is-r : r ≡ BadFigure = j ∙ ap (λ b. Judge b Missing) l in
            let d = ap number is-r in
            own_refused g kept s x is (SetFigures s n t k) somewhere same r (inl (is-r, over)) (least 24 (omega (arith, d)) (λ y u e w. let v = ap number e in omega (arith, v, d)) (omega arith)) h q
        go false l =
            let under : t ≤ 1000000 = grind (arith, nat_tests) in
            let is-r : r ≡ Missing = j ∙ ap (λ b. Judge b Missing) l in
            let d = ap number is-r in
            own_refused g kept s x is (SetFigures s n t k) somewhere same r (inr (inl (is-r, at))) (least 25 (omega (arith, d)) (λ y u e w. omega arith) (omega arith)) h q

    -- figures for a call
    pub figures_call : (c : ℕ) → node_at g s n ≡ Some (Call c) → (r : Refusal) → r ≡ cond (ltb 1000000 t) BadFigure NotABlock → (h : List Scope) → h ≡ g → Described g (SetFigures s n t k) (Err r) h
    figures_call c at r j h q = go (ltb 1000000 t) refl
      where
        same : changed g (SetFigures s n t k) ≡ g
        same = figures_same (ap (λ ns. with_nodes ns x) (change_same n (figured t k) x.nodes (Call c) (in_scope_is (λ v. slice_get v.nodes n) (Some (Call c)) at) refl))

        least : number r ≤ 30 → ((y : Refusal) → number y < number r → y ≡ BadFigure → 1000000 < t → ⊥) → (y : Refusal) → number y < number r → Own g (SetFigures s n t k) y → ⊥
        least a f y l (inl (e, w)) = f y l e w
        least a f y l (inr (inl (e, w))) = none_some (sym w ∙ at)
        least a f y l (inr (inr (e, w))) = let d = ap number e in omega (arith, d)

        go : (b : Bool) → ltb 1000000 t ≡ b → Described g (SetFigures s n t k) (Err r) h
        go true l =
            let over : 1000000 < t = grind (arith, nat_tests) in
            let is-r : r ≡ BadFigure = j ∙ ap (λ b. Judge b NotABlock) l in
            let d = ap number is-r in
            own_refused g kept s x is (SetFigures s n t k) somewhere same r (inl (is-r, over)) (least (omega (arith, d)) (λ y u e w. let v = ap number e in omega (arith, v, d))) h q
        go false l =
            let under : t ≤ 1000000 = grind (arith, nat_tests) in
            let is-r : r ≡ NotABlock = j ∙ ap (λ b. Judge b NotABlock) l in
            let d = ap number is-r in
            own_refused g kept s x is (SetFigures s n t k) somewhere same r (inr (inr (is-r, (c, at)))) (least (omega (arith, d)) (λ y u e w. omega arith)) h q
