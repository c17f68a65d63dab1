-- The polynomial that a map from exponents to ranks holds.
use Rattle.std.specs.Prelude.{ℕ, List, filter, map, nat_lt, unwrap_or}
use Rattle.std.specs.declared.cmp.Ordering.{Ordering}
use Rattle.std.specs.Ordering.{nat_cmp}
use Rattle.std.specs.Map.{lookup}
use Rattle.std.specs.Cmp.Lexicographic.{slice_cmp}
use Rattle.std.specs.BTreeMap.{BTreeMap, get, is_at}
use Rattle.fj_theory.specs.Polynomial.{Polynomial, with_coefficients}
use Rattle.fj_plain.specs.Packing.{unpacked_entries}
use Rattle.fj_plain.specs.declared.ranks.Ranks.{Ranks}
use Rattle.fj_plain.specs.declared.ranks.Ranks.TheVariants.{Packed, Wide}

-- The rank that a map has at a key, 0 where it has none.
abbrev pub rank_by : {K : Type 0} → (K → K → Ordering) → BTreeMap K ℕ → K → ℕ
rank_by cmp ranks k = unwrap_or (get cmp ranks k) 0

-- The rank at some exponents, 0 where no entry has them.
abbrev pub rank_at : List (List ℕ × ℕ) → List ℕ → ℕ
rank_at es a = unwrap_or (lookup (is_at (slice_cmp nat_cmp a)) es) 0

-- The polynomial with these ranks as its coefficients.
abbrev pub tallied : List (List ℕ × ℕ) → Polynomial
tallied es = with_coefficients (rank_at es) (map (λ e. e.0) es)

-- The entries with their exponents, which may be packed in the map.
abbrev pub by_exponents : Ranks → List (List ℕ × ℕ)
by_exponents (Packed ranks) = unpacked_entries ranks.entries
by_exponents (Wide ranks) = ranks.entries

-- The terms whose ranks aren't zero.
abbrev pub nonzero_entries : List (List ℕ × ℕ) → List (List ℕ × ℕ)
nonzero_entries ts = filter (λ t. nat_lt 0 t.1) ts
