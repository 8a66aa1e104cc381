-- What follows from a reading that gives a value.
use Rattle.std.proofs.Common.{◌≡◌, Bool, true, false, cond, Option, Some, None, ◌⊎◌, inl, inr, refl}
use Rattle.std.specs.Prelude.{option_map}
use Rattle.psos_text.specs.Chain.{◌>>=◌}

-- the first reading gave a value, and the second the result
pub bind_some : {A B : Type 0} (o : Option A) (f : A → Option B) (y : B) → (o >>= f) ≡ Some y → (x : A) × (o ≡ Some x) × (f x ≡ Some y)
bind_some None f y e = absurd cc
bind_some (Some x) f y e = (x, refl, e)

-- which side was chosen
pub chosen : {A : Type 0} (b : Bool) (x y z : A) → cond b x y ≡ z → ((b ≡ true) × (x ≡ z)) ⊎ ((b ≡ false) × (y ≡ z))
chosen true x y z e = inl (refl, e)
chosen false x y z e = inr (refl, e)

-- the test passed
pub guard_some : {A : Type 0} (b : Bool) (x y : A) → cond b (Some x) None ≡ Some y → (b ≡ true) × (x ≡ y)
guard_some true x y e = (refl, cc)
guard_some false x y e = absurd cc

-- there was a value to map
pub mapped_some : {A B : Type 0} (f : A → B) (o : Option A) (y : B) → option_map f o ≡ Some y → (x : A) × (o ≡ Some x) × (f x ≡ y)
mapped_some f None y e = absurd cc
mapped_some f (Some x) y e = (x, refl, cc)

-- two values are one
pub some_is : {A : Type 0} (x y : A) → (let o : Option A = Some x in o) ≡ Some y → x ≡ y
some_is x y e = cc

-- no value is no value
pub none_some : {A : Type 0} (x : A) → (let o : Option A = None in o) ≡ Some x → ⊥
none_some x e = cc
