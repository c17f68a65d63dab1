-- The numbers of questions, and their limits.
use Rattle.std.specs.Prelude.{ℕ, zero, suc, ◌*◌, ◌/◌, ◌%◌, ◌^◌, ◌==◌, Bool, ◌&&◌, ◌||◌, not, if◌then◌else◌, nat_lt, Ok, Err, Some, None}
use Rattle.std.specs.declared.option.Option.{Option}
use Rattle.std.specs.Option.{option_map_or}
use Rattle.std.proofs.Math.Nat.{zero-lt-suc}
use Rattle.fj_theory.specs.Fraction.{Fraction}
use Rattle.fj_text.specs.State.{State, after_sign}
use Rattle.fj_script.specs.declared.fault.FaultKind.TheVariants as kinds
use Rattle.fj_script.specs.LineFault.{Answer, ◌>>=◌, fault_at}
use Rattle.fj_script.specs.Items.{narrow, slash}

-- A number from low to high.
unfoldable pub within : ℕ → ℕ → State → Answer ℕ
within low high s = do
  n ← narrow s
  if nat_lt n.0 low || nat_lt high n.0 then Err (fault_at kinds.Range n.1) else Ok n

-- e of `parts`, `power`, `root`, `nu` and `compatible`: from 0 to 12.
unfoldable pub exponent : State → Answer ℕ
exponent s = within 0 12 s

-- E of `jumps` and `threshold`: at least 1, with p^E at most 65,536.
unfoldable pub level : ℕ → State → Answer ℕ
level p s = do
  n ← narrow s
  if n.0 == 0 || nat_lt 65536 (p ^ n.0) then Err (fault_at kinds.Range n.1) else Ok n

-- The greatest common divisor: the greatest number, up to n, that divides both.
unfoldable pub divisor_up_to : ℕ → ℕ → ℕ → ℕ
divisor_up_to m n zero = zero
divisor_up_to m n (suc d) = if m % suc d == 0 && n % suc d == 0 then suc d else divisor_up_to m n d

unfoldable pub common_divisor : ℕ → ℕ → ℕ
common_divisor m n = divisor_up_to m n n

abbrev pub fraction : ℕ → ℕ → Option Fraction
fraction m zero = None
fraction m (suc n) = Some (record { numerator = m; denominator = suc n; positive = zero-lt-suc n })

-- m/n in lowest terms; none where n is 0.
unfoldable pub lowest : ℕ → ℕ → Option Fraction
lowest m n = fraction (m / common_divisor m n) (n / common_divisor m n)

-- From 0 to 8, or above 0 and at most 8, with a denominator of at most 65,535.
unfoldable pub is_exponent : Bool → Fraction → Bool
is_exponent positive t = not (nat_lt 65535 t.denominator || nat_lt (8 * t.denominator) t.numerator || positive && t.numerator == 0)

-- The fraction of two numbers, of which the last one has just been taken.
unfoldable pub ratio_of : Bool → ℕ → ℕ → State → Answer Fraction
ratio_of positive m n s = option_map_or (λ t. if is_exponent positive t then Ok (t, s) else Err (fault_at kinds.Range s)) (lowest m n) (Err (fault_at kinds.Range s))

-- t: a number, or two with a `/` between them.
unfoldable pub ratio : Bool → State → Answer Fraction
ratio positive s = do
  m ← narrow s
  option_map_or (λ t. do
    n ← narrow t
    ratio_of positive m.0 n.0 n.1) (after_sign slash m.1) (ratio_of positive m.0 1 m.1)
