-- A step and the step that undoes it.
use Rattle.std.proofs.Common.{◌≡◌, ℕ, zero, suc, ◌<◌, ◌≤◌, List, [], ◌∷◌, length, Some, None, Option, sym, refl, ap, ◌∙◌, subst, arith}
use Rattle.std.specs.List.{slice_get}
use Rattle.std.proofs.lemmas.List.{length_push}
use Rattle.model.specs.declared.graph.Node.{Node}
use Rattle.model.specs.declared.graph.Node.TheVariants.{Block, Call}
use Rattle.model.proofs.Bests.{none_some, some_same}
use Rattle.model.specs.Changes.{change, all_but_last, empty_scope, figured, with_nodes, with_edges, with_facts, with_figures}
use Rattle.model.specs.Graph.{Scope}
use Rattle.model.specs.Rules.{KeepsFrom}
use Rattle.rules.proofs.Kept.{few_scopes, few_nodes, few_edges, few_facts}
use Rattle.workbook.specs.declared.change.Change.{Change}
use Rattle.workbook.specs.declared.change.Change.TheVariants.{PushNode, PopNode, PushEdge, PopEdge, PushFact, PopFact, Passes, Figures}
use Rattle.workbook.specs.declared.change.Step.{Step}
use Rattle.workbook.specs.declared.change.Step.TheVariants.{Open, Close, In}
use Rattle.workbook.specs.Steps.{apply_to, Room, figured_back, back_again, inverse_of, Undoable, RoomAt, inverse_at, UndoableAt, stepped, Fits, step_back, Reversible}
use Rattle.workbook.proofs.Lists.{all_but_last_push, push_last, has_last, change_past, change_back}

pub nth_change : {A : Type 0} (n : ℕ) (f : A → A) (xs : List A) (x : A) → slice_get xs n ≡ Some x → slice_get (change n f xs) n ≡ Some (f x)
nth_change n f [] x e = absurd (none_some e)
nth_change zero f (y ∷ xs) x e = ap (λ z. Some (f z)) (some_same e)
nth_change (suc n) f (y ∷ xs) x e = nth_change n f xs x e

shorter : {A : Type 0} (xs : List A) → length (all_but_last xs) ≤ length xs
shorter [] = omega arith
shorter (x ∷ []) = omega arith
shorter (x ∷ (y ∷ ys)) = let h = shorter (y ∷ ys) in omega arith

pub past : {A : Type 0} (n : ℕ) (xs : List A) → slice_get xs n ≡ None → length xs ≤ n
past n [] e = omega arith
past zero (x ∷ xs) e = absurd (none_some (sym e))
past (suc n) (x ∷ xs) e = let h = past n xs e in omega arith

-- the old figures again
refigured : (n t k : ℕ) (x : Scope) (o : Option Node) → slice_get x.nodes n ≡ o → apply_to (figured_back (Figures n t k) n o) (with_figures n t k x) ≡ x
refigured n t k x None e =
    let h = change_past n (figured t k) x.nodes (past n x.nodes e) in
    ap (λ ns. with_nodes ns x) (ap (change n (figured t k)) h ∙ h)
refigured n t k x (Some (Block a b)) e = ap (λ ns. with_nodes ns x) (change_back n (figured t k) (figured a b) x.nodes (Block a b) e refl)
refigured n t k x (Some (Call c)) e = ap (λ ns. with_nodes ns x) (change_back n (figured t k) (figured t k) x.nodes (Call c) e refl)

figures_room : (n t k : ℕ) (x : Scope) (o : Option Node) → Room (figured_back (Figures n t k) n o) x
figures_room n t k x None = tt
figures_room n t k x (Some (Block a b)) = tt
figures_room n t k x (Some (Call c)) = tt

pub undone : (ch : Change) (x : Scope) → Undoable ch x → apply_to (inverse_of ch x) (apply_to ch x) ≡ x
undone (PushNode n) x h = ap (λ ns. with_nodes ns x) (all_but_last_push x.nodes n)
undone PopNode x h = absurd h
undone (PushEdge e) x h = ap (λ es. with_edges es x) (all_but_last_push x.edges e)
undone PopEdge x h = absurd h
undone (PushFact f) x h = ap (λ fs. with_facts fs x) (all_but_last_push x.facts f)
undone PopFact x h =
    let w = has_last x.facts h in
    ap (λ o. apply_to (back_again o) (with_facts (all_but_last x.facts) x)) w.1 ∙ ap (λ fs. with_facts fs x) (push_last x.facts w.0 w.1)
undone (Passes l m) x h = refl
undone (Figures n t k) x h = refigured n t k x (slice_get x.nodes n) refl

module _ (g : List Scope) (kept : KeepsFrom 22 g) (s : ℕ) (ch : Change) where
  room : (x : Scope) → slice_get g s ≡ Some x → Room ch x
  room x e = go ch
    where
      go : (ch : Change) → Room ch x
      go (PushNode n) = let h = few_nodes g kept s x e in omega arith
      go PopNode = tt
      go (PushEdge f) = let h = few_edges g kept s x e in omega arith
      go PopEdge = tt
      go (PushFact f) = let h = few_facts g kept s x e in omega arith
      go PopFact = tt
      go (Passes l m) = tt
      go (Figures n t k) = tt

  -- there is room for a step in a graph that keeps the rules
  room_kept : (o : Option Scope) → slice_get g s ≡ o → RoomAt ch o
  room_kept None e = tt
  room_kept (Some x) e = room x e

  room_back : (x : Scope) → slice_get g s ≡ Some x → Undoable ch x → Room (inverse_of ch x) (apply_to ch x)
  room_back x e = go ch
    where
      go : (ch : Change) → Undoable ch x → Room (inverse_of ch x) (apply_to ch x)
      go (PushNode n) h = tt
      go PopNode h = absurd h
      go (PushEdge f) h = tt
      go PopEdge h = absurd h
      go (PushFact f) h = tt
      go PopFact h =
          let w = has_last x.facts h in
          let a = few_facts g kept s x e in
          let b = shorter x.facts in
          let c : length (all_but_last x.facts) < 5 = omega arith in
          subst (λ o. Room (back_again o) (with_facts (all_but_last x.facts) x)) (sym w.1) c
      go (Passes l m) h = tt
      go (Figures n t k) h = figures_room n t k (with_figures n t k x) (slice_get x.nodes n)

  -- and for the one that undoes it
  room_undo : (o : Option Scope) → slice_get g s ≡ o → UndoableAt ch o → RoomAt (inverse_at ch o) (slice_get (change s (apply_to ch) g) s)
  room_undo None e h = absurd h
  room_undo (Some x) e h = subst (RoomAt (inverse_of ch x)) (sym (nth_change s (apply_to ch) g x e)) (room_back x e h)

-- a graph in which a step is undone
undone_at : (g : List Scope) (s : ℕ) (ch : Change) (o : Option Scope) → slice_get g s ≡ o → UndoableAt ch o → change s (apply_to (inverse_at ch o)) (change s (apply_to ch) g) ≡ g
undone_at g s ch None e h = absurd h
undone_at g s ch (Some x) e h = change_back s (apply_to ch) (apply_to (inverse_of ch x)) g x e (undone ch x h)

module _ (g : List Scope) (kept : KeepsFrom 22 g) where
  -- there is room for a step in a graph that keeps the rules
  pub fits : (st : Step) → Reversible st g → Fits st g
  fits (Open l m) r = let h = few_scopes g kept in omega arith
  fits Close r = absurd r
  fits (In s ch) r = room_kept g kept s ch (slice_get g s) refl

  -- and for the one that undoes it
  pub fits_back : (st : Step) → Reversible st g → Fits (step_back st g) (stepped st g)
  fits_back (Open l m) r = let e = length_push g (empty_scope l m) in omega arith
  fits_back Close r = absurd r
  fits_back (In s ch) r = room_undo g kept s ch (slice_get g s) refl r

  step_undone : (st : Step) → Reversible st g → stepped (step_back st g) (stepped st g) ≡ g
  step_undone (Open l m) r = all_but_last_push g (empty_scope l m)
  step_undone Close r = absurd r
  step_undone (In s ch) r = undone_at g s ch (slice_get g s) refl r

  -- the same of three graphs, one after the other
  pub restored : (st back : Step) (h k : List Scope) → Reversible st g → back ≡ step_back st g → h ≡ stepped st g → k ≡ stepped back h → k ≡ g
  restored st back h k r i e f = f ∙ ap (λ b. stepped b h) i ∙ ap (stepped (step_back st g)) e ∙ step_undone st r
