-- Powers by squaring.
use Rattle.std.proofs.Common.{◌≡◌, ℕ, zero, suc, ◌+◌, sym, refl, ap, ◌∙◌, arith}
use Rattle.model.specs.Measures.{Measure, Laws}
use Rattle.model.specs.Best.{power}

module _ {C : Type 0} {m : Measure C} (laws : Laws m) where
  squared : (b : C) (n : ℕ) → power m (m.join b b) n ≡ power m b (n + n)
  squared b zero = refl
  squared b (suc n) =
      let e : suc n + suc n ≡ suc (suc (n + n)) = omega arith in
      ap (m.join (m.join b b)) (squared b n) ∙ laws.assoc b b (power m b (n + n)) ∙ ap (power m b) (sym e)

  -- one turn: the number left is even, or odd
  pub even_turn : (s b : C) (n h : ℕ) → n ≡ h + h → m.join s (power m (m.join b b) h) ≡ m.join s (power m b n)
  even_turn s b n h e = ap (m.join s) (squared b h ∙ ap (power m b) (sym e))

  pub odd_turn : (s b : C) (n h : ℕ) → n ≡ suc (h + h) → m.join (m.join s b) (power m (m.join b b) h) ≡ m.join s (power m b n)
  odd_turn s b n h e = laws.assoc s b (power m (m.join b b) h) ∙ ap (m.join s) (ap (m.join b) (squared b h) ∙ ap (power m b) (sym e))
