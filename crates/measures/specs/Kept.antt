-- The two cost measures keep the laws.
use Rattle.std.specs.Prelude.{◌≡◌, refl, ℕ, ◌+◌, ◌^◌, ◌≤◌, ◌<◌, max, T, leb}
use Rattle.std.proofs.Common.{sym, ap, subst, ◌∙◌, inl, inr, arith, leb→le, le→leb}
use Rattle.std.proofs.Math.Bridge.{le_prop}
use Rattle.std.proofs.Math.Decide.{dec_le}
use Rattle.model.specs.Measures.{Measure, Laws}
use Rattle.measures.specs.declared.cycles.Cycles.{Cycles}
use Rattle.measures.specs.declared.stack.Stack.{Stack}
use Rattle.measures.specs.Meanings.{up_to_most, cycles, stack}

-- a measure whose costs are told apart, ordered and joined by a number that is read off them
pub record Numbered {C : Type 0} (m : Measure C) (read : C → ℕ) (sum : ℕ → ℕ → ℕ) : Type 0 where
  pub same : (a b : C) → read a ≡ read b → a ≡ b
  pub order : (a b : C) → m.leq a b ≡ leb (read a) (read b)
  pub joined : (a b : C) → read (m.join a b) ≡ sum (read a) (read b)
  pub assoc : (x y z : ℕ) → sum (sum x y) z ≡ sum x (sum y z)
  pub left : (a : C) → sum (read m.nothing) (read a) ≡ read a
  pub right : (a : C) → sum (read a) (read m.nothing) ≡ read a
  pub mono_left : (x y z : ℕ) → x ≤ y → sum x z ≤ sum y z
  pub mono_right : (x y z : ℕ) → x ≤ y → sum z x ≤ sum z y

module _ {C : Type 0} (m : Measure C) (read : C → ℕ) (sum : ℕ → ℕ → ℕ) (by : Numbered m read sum) where
  below : (a b : C) → T (m.leq a b) → read a ≤ read b
  below a b h = leb→le (read a) (read b) (subst T (by.order a b) h)

  at_most : (a b : C) → read a ≤ read b → T (m.leq a b)
  at_most a b h = subst T (sym (by.order a b)) (le→leb (read a) (read b) h)

  numbered_laws : Laws m
  numbered_laws = record {
    total = λ a b. elim (dec_le (read a) (read b)) [ yes h ↦ inl (at_most a b h) | no h ↦ inr (at_most b a (omega arith)) ];
    trans = λ a b c h k. at_most a c (omega (arith, below a b h, below b c k));
    antisym = λ a b h k. by.same a b (omega (arith, below a b h, below b a k));
    assoc = λ a b c. by.same _ _ (by.joined (m.join a b) c ∙ ap (λ (x : ℕ). sum x (read c)) (by.joined a b) ∙ by.assoc (read a) (read b) (read c) ∙ sym (by.joined a (m.join b c) ∙ ap (sum (read a)) (by.joined b c)));
    left = λ a. by.same _ _ (by.joined m.nothing a ∙ by.left a);
    right = λ a. by.same _ _ (by.joined a m.nothing ∙ by.right a);
    mono_left = λ a b c h. at_most _ _ (omega (arith, by.joined a c, by.joined b c, by.mono_left (read a) (read b) (read c) (below a b h)));
    mono_right = λ a b c h. at_most _ _ (omega (arith, by.joined c a, by.joined c b, by.mono_right (read a) (read b) (read c) (below a b h)));
  }

abbrev counted : (n : ℕ) → n < 2 ^ 64 → Cycles
counted n h = record { count = n; fits = h }

-- costs with the same count are the same: there is one proof at most that it fits
pub same_count : (a b : Cycles) → a.count ≡ b.count → a ≡ b
same_count a b e =
    let P : ℕ → Type 0 = λ n. (h : n < 2 ^ 64) → a ≡ counted n h in
    subst P e (λ h. ap (counted a.count) (le_prop a.fits h)) b.fits

pub cycles_laws : Laws cycles
cycles_laws =
    numbered_laws cycles (λ a. a.count) (λ x y. up_to_most (x + y))
    (record {
      same = same_count;
      order = λ a b. refl;
      joined = λ a b. refl;
      assoc = λ x y z. omega arith;
      left = λ a. omega (arith, a.fits);
      right = λ a. omega (arith, a.fits);
      mono_left = λ x y z h. omega arith;
      mono_right = λ x y z h. omega arith;
    })

abbrev high : ℕ → Stack
high n = record { bytes = n }

pub stack_laws : Laws stack
stack_laws =
    numbered_laws stack (λ a. a.bytes) max
    (record {
      same = λ a b e. ap high e;
      order = λ a b. refl;
      joined = λ a b. refl;
      assoc = λ x y z. omega arith;
      left = λ a. omega arith;
      right = λ a. omega arith;
      mono_left = λ x y z h. omega arith;
      mono_right = λ x y z h. omega arith;
    })
