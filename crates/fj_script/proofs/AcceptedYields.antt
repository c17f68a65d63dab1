-- What holds of an answer where it isn't a fault.
use Rattle.std.proofs.Common.{◌≡◌, Bool, true, false, cond, Option, Some, None, Result, Ok, Err, refl, subst}
use Rattle.std.specs.Option.{option_map_or}
use Rattle.fj_script.specs.LineFault.{◌>>=◌}

abbrev pub Yields : {A E : Type 0} → (A → Type 0) → Result A E → Type 0
Yields P (Ok x) = P x
Yields P (Err e) = Unit {0}

-- Nothing is said.
abbrev pub Anything : {A : Type 0} → A → Type 0
Anything x = Unit {0}

pub yields_anything : {A E : Type 0} (r : Result A E) → Yields Anything r
yields_anything (Ok x) = tt
yields_anything (Err e) = tt

pub yields_option : {A B E : Type 0} (Q : B → Type 0) (o : Option A) (f : A → Result B E) (none : Result B E) → ((x : A) → o ≡ Some x → Yields Q (f x)) → Yields Q none
    → Yields Q (option_map_or f o none)
yields_option Q None f none some otherwise = otherwise
yields_option Q (Some x) f none some otherwise = some x refl

pub yields_if : {B E : Type 0} (Q : B → Type 0) (test : Bool) (first second : Result B E) → (test ≡ true → Yields Q first) → (test ≡ false → Yields Q second) → Yields Q (cond test first second)
yields_if Q true r s first second = first refl
yields_if Q false r s first second = second refl

pub yielded : {A E : Type 0} (P : A → Type 0) (r : Result A E) (x : A) → r ≡ Ok x → Yields P r → P x
yielded P r x e h = subst (Yields P) e h

pub yields_then : {A B E : Type 0} (P : A → Type 0) (Q : B → Type 0) (r : Result A E) (f : A → Result B E) → Yields P r → ((x : A) → P x → Yields Q (f x)) → Yields Q (r >>= f)
yields_then P Q (Ok x) f h k = k x h
yields_then P Q (Err e) f h k = tt

pub yields_both : {A E : Type 0} (P Q : A → Type 0) (r : Result A E) → Yields P r → Yields Q r → Yields (λ x. P x × Q x) r
yields_both P Q (Ok x) h k = (h, k)
yields_both P Q (Err e) h k = tt

pub yields_weaker : {A E : Type 0} (P Q : A → Type 0) (r : Result A E) → Yields P r → ((x : A) → P x → Q x) → Yields Q r
yields_weaker P Q (Ok x) h k = k x h
yields_weaker P Q (Err e) h k = tt
