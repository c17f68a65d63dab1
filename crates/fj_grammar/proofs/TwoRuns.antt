-- Two lines that begin with the same tokens, and how they are read: alike as far as they are the same.
use Rattle.std.proofs.Common.{◌≡◌, ℕ, zero, suc, ◌<◌, ◌≤◌, Bool, true, false, cond, List, [], ◌∷◌, ◌++◌, length, All, Option, Some, None, Result, Ok, Err, refl, sym, ap, ◌∙◌, subst, arith, inl, inr, ◌⊎◌}
use Rattle.std.specs.Option.{option_map_or}
use Rattle.fj_text.specs.declared.fault.Fault as text
use Rattle.fj_text.specs.Expression.{repeat}
use Rattle.fj_text.specs.State.{State, after, after_sign, end_of, is_the_sign, next, unexpected}
use Rattle.fj_text.specs.Token.{Token, Placed}
use Rattle.fj_script.specs.declared.fault.LineFault.{LineFault}
use Rattle.fj_script.specs.Items.{at_end, comma, listed, more, sign}
use Rattle.fj_script.specs.LineFault.{Answer, ◌>>=◌, not_here}

-- ---- what is said of columns

-- The tokens that are left, and the end of the one that was taken last, stand where P holds.
pub record IsAhead (P : ℕ → Type 0) (s : State) : Type 0 where
  pub end : P s.end
  pub left : All (λ t. P t.start × P t.end) s.left

-- And so does the start of the one that was taken last.
pub record IsNear (P : ℕ → Type 0) (s : State) : Type 0 where
  pub ahead : IsAhead P s
  pub start : P s.start

abbrev pub IsReady : Bool → (ℕ → Type 0) → State → Type 0
IsReady true P s = IsAhead P s
IsReady false P s = IsNear P s

pub ready : (k : Bool) {P : ℕ → Type 0} {s : State} → IsNear P s → IsReady k P s
ready true h = h.ahead
ready false h = h

ahead : (k : Bool) {P : ℕ → Type 0} {s : State} → IsReady k P s → IsAhead P s
ahead true h = h
ahead false h = h.ahead

-- A value with this property, or a fault where P holds.
pub data Stands {E A : Type 0} (place : E → ℕ) (P : ℕ → Type 0) (Q : A → Type 0) : Result A E → Type 0 where
  well : {x : A} → Q x → Stands place P Q (Ok x)
  faulty : {e : E} → P (place e) → Stands place P Q (Err e)

pub stands_then : {E A B : Type 0} {place : E → ℕ} {P : ℕ → Type 0} {Q : A → Type 0} {R : B → Type 0} {r : Result A E} (f : A → Result B E) → Stands place P Q r → ((x : A) → Q x → Stands place P R (f x)) → Stands place P R (r >>= f)
stands_then f (well h) k = k _ h
stands_then f (faulty h) k = faulty h

pub stands_on : {E A : Type 0} {place : E → ℕ} {P : ℕ → Type 0} {Q R : A → Type 0} {r : Result A E} → Stands place P Q r → ((x : A) → Q x → R x) → Stands place P R r
stands_on (well h) k = well (k _ h)
stands_on (faulty h) k = faulty h

abbrev pub Near : {E A : Type 0} → (E → ℕ) → (ℕ → Type 0) → Result (A × State) E → Type 0
Near place P answer = Stands place P (λ x. IsNear P x.1) answer

pub after_near : (P : ℕ → Type 0) (t : Placed) (ts : List Placed) → All (λ t. P t.start × P t.end) (t ∷ ts) → IsNear P (after t ts)
after_near P t ts h = let first = h 0 t (omega arith) in record { ahead = record { end = first.1; left = λ k d inside. h (suc k) d (omega arith) }; start = first.0 }

-- Anything.
abbrev pub Any : {A : Type 0} → A → Type 0
Any x = Unit {0}

abbrev IsLess : Bool → ℕ → ℕ → Type 0
IsLess true m n = m < n
IsLess false m n = m ≤ n

less_then : (k i : Bool) (l m n : ℕ) → IsLess i l m → IsLess k m n → IsLess k l n
less_then true true l m n h g = omega arith
less_then true false l m n h g = omega arith
less_then false true l m n h g = omega arith
less_then false false l m n h g = omega arith

less_or : (k : Bool) (m n : ℕ) → IsLess k m n → m ≤ n
less_or true m n h = omega arith
less_or false m n h = h

moved : {X : Type 0} (Z : X → X → Type 0) {u v w x : X} → u ≡ w → v ≡ x → Z w x → Z u v
moved Z {u} {v} {w} {x} e h z = subst (λ a. Z a v) (sym e) (subst (λ a. Z w a) (sym h) z)

-- Two lines that begin alike go on with the tokens r and q. Where M holds, faults of the other one are fine from b on, and
-- otherwise the tokens that are the same reach after the column c.
module _ (M : Type 0) (b c : ℕ) (r q : List Placed) where
  abbrev pub Low : ℕ → Type 0
  Low n = b ≤ n

  abbrev pub High : ℕ → Type 0
  High n = c < n

  abbrev pub AreHigh : List Placed → Type 0
  AreHigh ts = All (λ t. (c < t.start) × (c < t.end)) ts

  abbrev pub FirstHigh : List Placed → Type 0
  FirstHigh [] = Unit {0}
  FirstHigh (t ∷ ts) = (c < t.end) × AreHigh ts

  -- What is known of the tokens that follow.
  pub record AreBehindBoth : Type 0 where
    pub one : FirstHigh r
    pub other : All (λ t. (b ≤ t.start) × (b ≤ t.end)) q

  abbrev pub IsEdgeBehind : Placed → List Placed → Type 0
  IsEdgeBehind t [] = M ⊎ ((c < t.start) × (c < t.end) × AreHigh r)
  IsEdgeBehind t (u ∷ us) = IsEdgeBehind u us

  abbrev pub IsEdge : List Placed → Type 0
  IsEdge [] = M
  IsEdge (t ∷ ts) = IsEdgeBehind t ts

  -- Two states of which the tokens that are left begin alike.
  pub data Agree : State → State → Type 0 where
    agree : (ts : List Placed) (start end : ℕ) → b ≤ end_of ts end → IsEdge ts → Agree (record { left = ts ++ r; start = start; end = end }) (record { left = ts ++ q; start = start; end = end })

  pub data Along {E A : Type 0} (place : E → ℕ) (Alike : A → A → Type 0) (Fine Void : A → Type 0) : Result A E → Result A E → Type 0 where
    alike : {x y : A} → Alike x y → Along place Alike Fine Void (Ok x) (Ok y)
    same : {e : E} → Along place Alike Fine Void (Err e) (Err e)
    fine : {u v : Result A E} → M → Stands place Low Fine v → Along place Alike Fine Void u v
    void : {u v : Result A E} → Stands place High Void u → Along place Alike Fine Void u v

  abbrev pub AlongAnswer : {E A : Type 0} → (E → ℕ) → Bool → Result (A × State) E → Result (A × State) E → Type 0
  AlongAnswer place idle u v = Along place (λ x y. (x.0 ≡ y.0) × Agree x.1 y.1) (λ x. IsReady idle Low x.1) (λ x. IsNear High x.1) u v

  abbrev pub AlongStop : {E A : Type 0} → (E → ℕ) → Result A E → Result A E → Type 0
  AlongStop place u v = Along place (λ x y. Unit {0}) Any Any u v

  -- How a rule reads two lines. A rule that takes a token first says nothing of the token that was taken before it.
  pub record IsRule {E A : Type 0} (place : E → ℕ) (first idle : Bool) (R : State → Result (A × State) E) : Type 0 where
    pub low : (s : State) → IsReady first Low s → Near place Low (R s)
    pub high : (s : State) → IsReady first High s → Near place High (R s)
    pub along : (s t : State) → Agree s t → AlongAnswer place idle (R s) (R t)
    pub short : (s : State) → Stands place Any (λ x. IsLess first (length x.1.left) (length s.left)) (R s)

  pub record IsStop {E A : Type 0} (place : E → ℕ) (first : Bool) (R : State → Result A E) : Type 0 where
    pub low : (s : State) → IsReady first Low s → Stands place Low Any (R s)
    pub high : (s : State) → IsReady first High s → Stands place High Any (R s)
    pub along : (s t : State) → Agree s t → AlongStop place (R s) (R t)

  -- ---- one rule after another

  module _ {E A B : Type 0} {place : E → ℕ} (k i : Bool) (R : State → Result (A × State) E) where
    pub then_rule : (j : Bool) (f : A × State → Result (B × State) E) → IsRule place k i R → ((x : A) → IsRule place i j (λ s. f (x, s))) → IsRule place k j (λ s. R s >>= f)
    then_rule j f H K = record {
      low = λ s h. stands_then f (H.low s h) (λ x near. (K x.0).low x.1 (ready i near));
      high = λ s h. stands_then f (H.high s h) (λ x near. (K x.0).high x.1 (ready i near));
      along = λ s t g. by (R s) (R t) (H.along s t g);
      short = λ s. stands_then f (H.short s) (λ x less. stands_on ((K x.0).short x.1) (λ y fewer. less_then k i (length y.1.left) (length x.1.left) (length s.left) fewer less));
    }
      where
        by : (u v : Result (A × State) E) → AlongAnswer place i u v → AlongAnswer place j (u >>= f) (v >>= f)
        by u v (alike {x = x} {y = y} h) = subst (λ z. AlongAnswer place j (f x) (f (z, y.1))) h.0 ((K x.0).along x.1 y.1 h.1)
        by u v same = same
        by u v (fine m h) = fine m (stands_then f h (λ y at. stands_on ((K y.0).low y.1 at) (λ z near. ready j near)))
        by u v (void h) = void (stands_then f h (λ x near. (K x.0).high x.1 (ready i near)))

    pub then_stop : (f : A × State → Result B E) → IsRule place k i R → ((x : A) → IsStop place i (λ s. f (x, s))) → IsStop place k (λ s. R s >>= f)
    then_stop f H K = record {
      low = λ s h. stands_then f (H.low s h) (λ x near. (K x.0).low x.1 (ready i near));
      high = λ s h. stands_then f (H.high s h) (λ x near. (K x.0).high x.1 (ready i near));
      along = λ s t g. by (R s) (R t) (H.along s t g);
    }
      where
        by : (u v : Result (A × State) E) → AlongAnswer place i u v → AlongStop place (u >>= f) (v >>= f)
        by u v (alike {x = x} {y = y} h) = subst (λ z. AlongStop place (f x) (f (z, y.1))) h.0 ((K x.0).along x.1 y.1 h.1)
        by u v same = same
        by u v (fine m h) = fine m (stands_then f h (λ y at. (K y.0).low y.1 at))
        by u v (void h) = void (stands_then f h (λ x near. (K x.0).high x.1 (ready i near)))

  -- ---- values, faults and choices

  module _ {E A : Type 0} (place : E → ℕ) where
    pub value_rule : (x : A) → IsRule place false false (λ s. Ok (x, s))
    value_rule x = record { low = λ s h. well h; high = λ s h. well h; along = λ s t g. alike (refl, g); short = λ s. well (omega arith) }

    pub fault_rule : (j : Bool) (e : ℕ → E) → ((n : ℕ) → place (e n) ≡ n) → IsRule {A = A} place false j (λ s. Err (e s.start))
    fault_rule j e is = record {
      low = λ s h. faulty (subst Low (sym (is s.start)) h.start);
      high = λ s h. faulty (subst High (sym (is s.start)) h.start);
      along = λ s t g. by s t g;
      short = λ s. faulty tt;
    }
      where
        by : (s t : State) → Agree s t → AlongAnswer {A = A} place j (Err (e s.start)) (Err (e t.start))
        by s t (agree ts start end h edge) = same

    pub choice_rule : (k j : Bool) (test : Bool) (R Q : State → Result (A × State) E) → IsRule place k j R → IsRule place k j Q → IsRule place k j (λ s. cond test (R s) (Q s))
    choice_rule k j true R Q h g = h
    choice_rule k j false R Q h g = g

    pub option_rule : {X : Type 0} (k j : Bool) (o : Option X) (f : X → State → Result (A × State) E) (d : State → Result (A × State) E) → ((x : X) → IsRule place k j (f x)) → IsRule place k j d → IsRule place k j (λ s. option_map_or (λ x. f x s) o (d s))
    option_rule k j None f d h g = g
    option_rule k j (Some x) f d h g = h x

    -- A rule that takes a token first is one that doesn't.
    pub later_rule : (j : Bool) (R : State → Result (A × State) E) → IsRule place true j R → IsRule place false j R
    later_rule j R h = record { low = λ s near. h.low s near.ahead; high = λ s near. h.high s near.ahead; along = h.along; short = λ s. stands_on (h.short s) (λ x less. omega arith) }

    -- the same with less that is fine
    pub idle_rule : (k : Bool) (R : State → Result (A × State) E) → IsRule place k false R → IsRule place k true R
    idle_rule k R h = record { low = h.low; high = h.high; along = λ s t g. by (R s) (R t) (h.along s t g); short = h.short }
      where
        by : (u v : Result (A × State) E) → AlongAnswer place false u v → AlongAnswer place true u v
        by u v (alike h) = alike h
        by u v same = same
        by u v (fine m h) = fine m (stands_on h (λ x near. near.ahead))
        by u v (void h) = void h

  module _ {E B : Type 0} (place : E → ℕ) where
    pub later_stop : (R : State → Result B E) → IsStop place true R → IsStop place false R
    later_stop R h = record { low = λ s near. h.low s near.ahead; high = λ s near. h.high s near.ahead; along = h.along }

    pub fault_stop : (e : ℕ → E) → ((n : ℕ) → place (e n) ≡ n) → IsStop {A = B} place false (λ s. Err (e s.start))
    fault_stop e is = record {
      low = λ s h. faulty (subst Low (sym (is s.start)) h.start);
      high = λ s h. faulty (subst High (sym (is s.start)) h.start);
      along = λ s t g. by s t g;
    }
      where
        by : (s t : State) → Agree s t → AlongStop {A = B} place (Err (e s.start)) (Err (e t.start))
        by s t (agree ts start end h edge) = same

    pub choice_stop : (k : Bool) (test : Bool) (R Q : State → Result B E) → IsStop place k R → IsStop place k Q → IsStop place k (λ s. cond test (R s) (Q s))
    choice_stop k true R Q h g = h
    choice_stop k false R Q h g = g

    pub option_stop : {X : Type 0} (k : Bool) (o : Option X) (f : X → State → Result B E) (d : State → Result B E) → ((x : X) → IsStop place k (f x)) → IsStop place k d → IsStop place k (λ s. option_map_or (λ x. f x s) o (d s))
    option_stop k None f d h g = g
    option_stop k (Some x) f d h g = h x

  -- ---- tokens

  module _ (H : AreBehindBoth) where
    -- after the last token that is the same
    pub edge_ahead : (start end : ℕ) → b ≤ end → IsAhead Low (record { left = q; start = start; end = end })
    edge_ahead start end h = record { end = h; left = H.other }

    -- A token that is the same is taken: the states agree again, or the column c is passed.
    pub taken : (t : Placed) (ts : List Placed) (end : ℕ) → b ≤ end_of (t ∷ ts) end → IsEdge (t ∷ ts) → Agree (after t (ts ++ r)) (after t (ts ++ q)) ⊎ IsNear High (after t (ts ++ r))
    taken t (u ∷ us) end h edge = inl (agree (u ∷ us) t.start t.end h edge)
    taken t [] end h (inl m) = inl (agree [] t.start t.end h m)
    taken t [] end h (inr x) = inr (record { ahead = record { end = x.1; left = x.2 }; start = x.0 })

    -- after c, where the first token of r was taken
    first_high : (t : Placed) (ts : List Placed) → FirstHigh (t ∷ ts) → IsAhead High (after t ts)
    first_high t ts h = record { end = h.0; left = h.1 }

    -- A rule for the next token, and a fault where none stands or it may not stand there.
    module _ {E A : Type 0} (place : E → ℕ) (f : Token × State → Result (A × State) E) (wrong : State → E) (is : (s : State) → place (wrong s) ≡ (unexpected s).place) where
      on_next_near : (P : ℕ → Type 0) → ((tok : Token) (s : State) → IsNear P s → Near place P (f (tok, s))) → (s : State) → IsAhead P s → Near place P (option_map_or f (next s) (Err (wrong s)))
      unfolding next unexpected
      on_next_near P each s h = by s.left h.left (is s)
        where
          by : (ts : List Placed) → All (λ t. P t.start × P t.end) ts → place (wrong (record { left = ts; start = s.start; end = s.end })) ≡ (unexpected (record { left = ts; start = s.start; end = s.end })).place
              → Near place P (option_map_or f (next (record { left = ts; start = s.start; end = s.end })) (Err (wrong (record { left = ts; start = s.start; end = s.end }))))
          by [] all e = faulty (subst P (sym e) h.end)
          by (t ∷ ts) all e = each t.token (after t ts) (after_near P t ts all)

      pub next_rule : (j : Bool) → ((tok : Token) → IsRule place false j (λ s. f (tok, s))) → IsRule place true j (λ s. option_map_or f (next s) (Err (wrong s)))
      unfolding next
      next_rule j K = record {
        low = λ s h. on_next_near Low (λ tok. (K tok).low) s h;
        high = λ s h. on_next_near High (λ tok. (K tok).high) s h;
        along = by;
        short = λ s. shorter s.left s.start s.end;
      }
        where
          by : (s t : State) → Agree s t → AlongAnswer place j (option_map_or f (next s) (Err (wrong s))) (option_map_or f (next t) (Err (wrong t)))
          by s t (agree [] start end h m) = fine m (stands_on (on_next_near Low (λ tok. (K tok).low) _ (edge_ahead start end h)) (λ x near. ready j near))
          by s t (agree (x ∷ ts) start end h edge) = elim (taken x ts end h edge) [ inl g ↦ (K x.token).along (after x (ts ++ r)) (after x (ts ++ q)) g | inr near ↦ void ((K x.token).high (after x (ts ++ r)) near) ]

          shorter : (ts : List Placed) (start end : ℕ)
              → Stands place Any (λ (x : A × State). length x.1.left < length ts) (option_map_or f (next (record { left = ts; start = start; end = end })) (Err (wrong (record { left = ts; start = start; end = end }))))
          shorter [] start end = faulty tt
          shorter (t ∷ ts) start end = stands_on ((K t.token).short (after t ts)) (λ x less. omega arith)

    -- What follows a sign, where it is next, and something else where it isn't.
    sign_taken : {X : Type 0} (sgn : ℕ) (t : Placed) (ts : List Placed) (start end : ℕ) (f : State → X) (d : X) → option_map_or f (after_sign sgn (record { left = t ∷ ts; start = start; end = end })) d ≡ cond (is_the_sign sgn t.token) (f (after t ts)) d
    unfolding after_sign next
    sign_taken sgn t ts start end f d = by (is_the_sign sgn t.token)
      where
        by : (c : Bool) → option_map_or f (cond c (Some (after t ts)) None) d ≡ cond c (f (after t ts)) d
        by true = refl
        by false = refl

    sign_missing : {X : Type 0} (sgn : ℕ) (start end : ℕ) (f : State → X) (d : X) → option_map_or f (after_sign sgn (record { left = []; start = start; end = end })) d ≡ d
    unfolding after_sign next
    sign_missing sgn start end f d = refl

    sign_cases : {X : Type 0} (Z : X → Type 0) (sgn : ℕ) (f : State → X) (d : X) (s : State) → ((t : Placed) (ts : List Placed) → s.left ≡ t ∷ ts → Z (f (after t ts))) → Z d → Z (option_map_or f (after_sign sgn s) d)
    unfolding after_sign next
    sign_cases {X} Z sgn f d s taken_it otherwise = by s.left refl
      where
        test : (t : Placed) (ts : List Placed) → s.left ≡ t ∷ ts → (c : Bool) → Z (option_map_or f (cond c (Some (after t ts)) None) d)
        test t ts e true = taken_it t ts e
        test t ts e false = otherwise

        by : (ts : List Placed) → s.left ≡ ts → Z (option_map_or f (after_sign sgn (record { left = ts; start = s.start; end = s.end })) d)
        by [] e = otherwise
        by (t ∷ ts) e = test t ts e (is_the_sign sgn t.token)

    -- what was taken first of these
    first_of_left : (P : ℕ → Type 0) (s : State) (t : Placed) (ts : List Placed) → IsAhead P s → s.left ≡ t ∷ ts → IsNear P (after t ts)
    first_of_left P s t ts h e = after_near P t ts (subst (λ us. All (λ t. P t.start × P t.end) us) e h.left)

    first_of_one : (t : Placed) (ts : List Placed) → r ≡ t ∷ ts → IsAhead High (after t ts)
    first_of_one t ts e = first_high t ts (subst FirstHigh e H.one)

    first_of_other : (t : Placed) (ts : List Placed) → q ≡ t ∷ ts → IsNear Low (after t ts)
    first_of_other t ts e = after_near Low t ts (subst (λ us. All (λ t. (b ≤ t.start) × (b ≤ t.end)) us) e H.other)

    module _ {E A : Type 0} (place : E → ℕ) where
      -- both lines the same up to the sign
      signs : (j : Bool) (sgn : ℕ) (f D : State → Result (A × State) E) → ((s t : State) → Agree s t → AlongAnswer place j (f s) (f t)) → ((s : State) → IsNear High s → Near place High (f s)) → ((s t : State) → Agree s t → AlongAnswer place j (D s) (D t))
          → (x : Placed) (ts : List Placed) (start end : ℕ) → b ≤ end_of (x ∷ ts) end → IsEdge (x ∷ ts)
          → AlongAnswer place j (option_map_or f (after_sign sgn (record { left = x ∷ (ts ++ r); start = start; end = end })) (D (record { left = x ∷ (ts ++ r); start = start; end = end })))
          (option_map_or f (after_sign sgn (record { left = x ∷ (ts ++ q); start = start; end = end })) (D (record { left = x ∷ (ts ++ q); start = start; end = end })))
      signs j sgn f D both high others x ts start end h edge =
          moved (λ u v. AlongAnswer place j u v) (sign_taken sgn x (ts ++ r) start end f _) (sign_taken sgn x (ts ++ q) start end f _) (by (is_the_sign sgn x.token))
        where
          by : (c : Bool) → AlongAnswer place j (cond c (f (after x (ts ++ r))) (D (record { left = x ∷ (ts ++ r); start = start; end = end }))) (cond c (f (after x (ts ++ q))) (D (record { left = x ∷ (ts ++ q); start = start; end = end })))
          by true = elim (taken x ts end h edge) [ inl g ↦ both (after x (ts ++ r)) (after x (ts ++ q)) g | inr near ↦ void (high (after x (ts ++ r)) near) ]
          by false = others _ _ (agree (x ∷ ts) start end h edge)

      -- After the sign a rule takes a token first.
      pub sign_or : (k j : Bool) (sgn : ℕ) (f D : State → Result (A × State) E) → IsRule place true j f → IsRule place k j D → IsRule place k j (λ s. option_map_or f (after_sign sgn s) (D s))
      sign_or k j sgn f D F K = record {
        low = λ s h. sign_cases (Near place Low) sgn f (D s) s (λ t ts e. F.low (after t ts) (first_of_left Low s t ts (ahead k h) e).ahead) (K.low s h);
        high = λ s h. sign_cases (Near place High) sgn f (D s) s (λ t ts e. F.high (after t ts) (first_of_left High s t ts (ahead k h) e).ahead) (K.high s h);
        along = by;
        short = λ s. sign_cases (Stands place Any (λ (x : A × State). IsLess k (length x.1.left) (length s.left))) sgn f (D s) s (λ t ts e. stands_on (F.short (after t ts)) (λ x less. fewer k (length x.1.left) s t ts e less)) (K.short s);
      }
        where
          fewer : (k : Bool) (n : ℕ) (s : State) (t : Placed) (ts : List Placed) → s.left ≡ t ∷ ts → n < length ts → IsLess k n (length s.left)
          fewer true n s t ts e less = let all = ap length e in omega (arith, all)
          fewer false n s t ts e less = let all = ap length e in omega (arith, all)

          by : (s t : State) → Agree s t → AlongAnswer place j (option_map_or f (after_sign sgn s) (D s)) (option_map_or f (after_sign sgn t) (D t))
          by s t (agree [] start end h m) =
              sign_cases (λ v. AlongAnswer place j (option_map_or f (after_sign sgn (record { left = r; start = start; end = end })) (D (record { left = r; start = start; end = end }))) v) sgn f (D (record { left = q; start = start; end = end })) (record { left = q; start = start; end = end })
              (λ t ts e. fine m (stands_on (F.low (after t ts) (first_of_other t ts e).ahead) (λ x near. ready j near)))
              (sign_cases (λ u. AlongAnswer place j u (D (record { left = q; start = start; end = end }))) sgn f (D (record { left = r; start = start; end = end })) (record { left = r; start = start; end = end })
              (λ t ts e. void (F.high (after t ts) (first_of_one t ts e))) (K.along _ _ (agree [] start end h m)))
          by s t (agree (x ∷ ts) start end h edge) = signs j sgn f D F.along (λ u near. F.high u near.ahead) K.along x ts start end h edge

      -- Where the sign is missing nothing is said of the token before it.
      pub sign_else : (k j : Bool) (sgn : ℕ) (f D : State → Result (A × State) E) → IsRule place false j f → IsRule place k j D → ((s : State) → IsAhead Low s → Stands place Low (λ (x : A × State). IsReady j Low x.1) (D s)) → IsRule place k j (λ s. option_map_or f (after_sign sgn s) (D s))
      sign_else k j sgn f D F K calm = record {
        low = λ s h. sign_cases (Near place Low) sgn f (D s) s (λ t ts e. F.low (after t ts) (first_of_left Low s t ts (ahead k h) e)) (K.low s h);
        high = λ s h. sign_cases (Near place High) sgn f (D s) s (λ t ts e. F.high (after t ts) (first_of_left High s t ts (ahead k h) e)) (K.high s h);
        along = by;
        short = λ s. sign_cases (Stands place Any (λ (x : A × State). IsLess k (length x.1.left) (length s.left))) sgn f (D s) s (λ t ts e. stands_on (F.short (after t ts)) (λ x less. fewer k (length x.1.left) s t ts e less)) (K.short s);
      }
        where
          fewer : (k : Bool) (n : ℕ) (s : State) (t : Placed) (ts : List Placed) → s.left ≡ t ∷ ts → n ≤ length ts → IsLess k n (length s.left)
          fewer true n s t ts e less = let all = ap length e in omega (arith, all)
          fewer false n s t ts e less = let all = ap length e in omega (arith, all)

          by : (s t : State) → Agree s t → AlongAnswer place j (option_map_or f (after_sign sgn s) (D s)) (option_map_or f (after_sign sgn t) (D t))
          by s t (agree [] start end h m) =
              fine m (sign_cases (λ v. Stands place Low (λ (x : A × State). IsReady j Low x.1) v) sgn f (D (record { left = q; start = start; end = end })) (record { left = q; start = start; end = end })
              (λ t ts e. stands_on (F.low (after t ts) (first_of_other t ts e)) (λ x near. ready j near)) (calm (record { left = q; start = start; end = end }) (edge_ahead start end h)))
          by s t (agree (x ∷ ts) start end h edge) = signs j sgn f D F.along F.high K.along x ts start end h edge

      -- a fault where no token that is left may stand
      pub wrong_rule : (j : Bool) (wrong : State → E) → ((s : State) → place (wrong s) ≡ (unexpected s).place)
          → ((t : Placed) (ts us : List Placed) (start end : ℕ) → wrong (record { left = t ∷ ts; start = start; end = end }) ≡ wrong (record { left = t ∷ us; start = start; end = end })) → IsRule {A = A} place true j (λ s. Err (wrong s))
      unfolding unexpected
      wrong_rule j wrong is alone = record {
        low = λ s h. faulty (subst Low (sym (is s)) (stands Low s h));
        high = λ s h. faulty (subst High (sym (is s)) (stands High s h));
        along = by;
        short = λ s. faulty tt;
      }
        where
          stands : (P : ℕ → Type 0) (s : State) → IsAhead P s → P (unexpected s).place
          stands P s h = at s.left h.left
            where
              at : (ts : List Placed) → All (λ t. P t.start × P t.end) ts → P (unexpected (record { left = ts; start = s.start; end = s.end })).place
              at [] all = h.end
              at (t ∷ ts) all = (all 0 t (omega arith)).0

          by : (s t : State) → Agree s t → AlongAnswer {A = A} place j (Err (wrong s)) (Err (wrong t))
          by s t (agree [] start end h m) = fine m (faulty (subst Low (sym (is (record { left = q; start = start; end = end }))) (stands Low (record { left = q; start = start; end = end }) (edge_ahead start end h))))
          by s t (agree (x ∷ ts) start end h edge) = subst (λ e. AlongAnswer {A = A} place j (Err (wrong (record { left = x ∷ (ts ++ r); start = start; end = end }))) (Err e)) (alone x (ts ++ r) (ts ++ q) start end) same

    -- ---- the end of a line

    pub end_stop : {A : Type 0} (x : A) → IsStop (λ (e : LineFault). e.column) true (λ s. at_end (x, s))
    unfolding at_end next unexpected
    end_stop {A} x = record { low = λ s h. ends Low s h; high = λ s h. ends High s h; along = by }
      where
        ends : (P : ℕ → Type 0) (s : State) → IsAhead P s → Stands (λ (e : LineFault). e.column) P Any (at_end (x, s))
        ends P s h = at s.left h.left
          where
            at : (ts : List Placed) → All (λ t. P t.start × P t.end) ts → Stands (λ (e : LineFault). e.column) P Any (at_end (x, record { left = ts; start = s.start; end = s.end }))
            at [] all = well tt
            at (t ∷ ts) all = faulty (all 0 t (omega arith)).0

        by : (s t : State) → Agree s t → AlongStop (λ (e : LineFault). e.column) (at_end (x, s)) (at_end (x, t))
        by s t (agree [] start end h m) = fine m (ends Low (record { left = q; start = start; end = end }) (edge_ahead start end h))
        by s t (agree (y ∷ ts) start end h edge) = same

    -- What follows the next token, where there is one.
    pub next_else : {E A : Type 0} (place : E → ℕ) (x : A) (f : Token × State → Result (A × State) E) → ((tok : Token) → IsRule place false true (λ s. f (tok, s))) → IsRule place false true (λ s. option_map_or f (next s) (Ok (x, s)))
    unfolding next
    next_else {E} {A} place x f K = record {
      low = λ s h. near Low (λ tok. (K tok).low) s h;
      high = λ s h. near High (λ tok. (K tok).high) s h;
      along = by;
      short = λ s. shorter s.left s.start s.end;
    }
      where
        near : (P : ℕ → Type 0) → ((tok : Token) (s : State) → IsNear P s → Near place P (f (tok, s))) → (s : State) → IsNear P s → Near place P (option_map_or f (next s) (Ok (x, s)))
        near P each s h = at s.left h.ahead.left
          where
            at : (ts : List Placed) → All (λ t. P t.start × P t.end) ts → Near place P (option_map_or f (next (record { left = ts; start = s.start; end = s.end })) (Ok (x, s)))
            at [] all = well h
            at (t ∷ ts) all = each t.token (after t ts) (after_near P t ts all)

        calm : (s : State) → IsAhead Low s → Stands place Low (λ (y : A × State). IsAhead Low y.1) (option_map_or f (next s) (Ok (x, s)))
        calm s h = at s.left h.left
          where
            at : (ts : List Placed) → All (λ t. Low t.start × Low t.end) ts → Stands place Low (λ (y : A × State). IsAhead Low y.1) (option_map_or f (next (record { left = ts; start = s.start; end = s.end })) (Ok (x, s)))
            at [] all = well h
            at (t ∷ ts) all = stands_on ((K t.token).low (after t ts) (after_near Low t ts all)) (λ y near. near.ahead)

        by : (s t : State) → Agree s t → AlongAnswer place true (option_map_or f (next s) (Ok (x, s))) (option_map_or f (next t) (Ok (x, t)))
        by s t (agree [] start end h m) = fine m (calm (record { left = q; start = start; end = end }) (edge_ahead start end h))
        by s t (agree (y ∷ ts) start end h edge) = elim (taken y ts end h edge) [ inl g ↦ (K y.token).along (after y (ts ++ r)) (after y (ts ++ q)) g | inr high ↦ void ((K y.token).high (after y (ts ++ r)) high) ]

        shorter : (ts : List Placed) (start end : ℕ) → Stands place Any (λ (y : A × State). length y.1.left ≤ length ts) (option_map_or f (next (record { left = ts; start = start; end = end })) (Ok (x, record { left = ts; start = start; end = end })))
        shorter [] start end = well (omega arith)
        shorter (t ∷ ts) start end = stands_on ((K t.token).short (after t ts)) (λ y less. omega arith)

    -- ---- signs that have to stand there

    not_here_alone : (t : Placed) (ts us : List Placed) (start end : ℕ) → not_here (record { left = t ∷ ts; start = start; end = end }) ≡ not_here (record { left = t ∷ us; start = start; end = end })
    unfolding unexpected
    not_here_alone t ts us start end = refl

    pub sign_then : {A : Type 0} (j : Bool) (sgn : ℕ) (f : State → Answer A) → IsRule (λ (e : LineFault). e.column) false j f → IsRule (λ (e : LineFault). e.column) true j (λ s. sign sgn s >>= f)
    unfolding sign
    sign_then {A} j sgn f F =
        let place : LineFault → ℕ = λ e. e.column in
        let wrong : IsRule {A = A} place true j (λ s. Err (not_here s)) = wrong_rule place j not_here (λ s. refl) not_here_alone in
        let all : IsRule place true j (λ s. option_map_or f (after_sign sgn s) (Err (not_here s))) = sign_else place true j sgn f (λ s. Err (not_here s)) F wrong (λ s h. stands_on (wrong.low s h) (λ x near. ready j near)) in
        subst (IsRule place true j) (λ i. λ s. same_rule s i) all
      where
        same_rule : (s : State) → option_map_or f (after_sign sgn s) (Err (not_here s)) ≡ (option_map_or (λ t. Ok t) (after_sign sgn s) (Err (not_here s)) >>= f)
        same_rule s = by (after_sign sgn s)
          where
            by : (o : Option State) → option_map_or f o (Err (not_here s)) ≡ (option_map_or (λ t. Ok t) o (Err (not_here s)) >>= f)
            by (Some t) = refl
            by None = refl

    -- ---- lists with commas

    module _ {A : Type 0} (item : List A → State → Answer A) (each : (xs : List A) → IsRule (λ (e : LineFault). e.column) false false (item xs)) where
      more_near : (P : ℕ → Type 0) → ((xs : List A) (s : State) → IsNear P s → Near (λ (e : LineFault). e.column) P (item xs s)) → (n : ℕ) (xs : List A) (s : State) → IsNear P s → Near (λ (e : LineFault). e.column) P (more item n xs s)
      unfolding more
      more_near P near zero xs s h = well h
      more_near P near (suc n) xs s h =
          sign_cases (Near (λ (e : LineFault). e.column) P) comma (λ t. item xs t >>= λ x. more item n (xs ++ x.0 ∷ []) x.1) (Ok (xs, s)) s
          (λ t ts e. stands_then (λ x. more item n (xs ++ x.0 ∷ []) x.1) (near xs (after t ts) (first_of_left P s t ts h.ahead e)) (λ x last. more_near P near n (xs ++ x.0 ∷ []) x.1 last)) (well h)

      more_calm : (n : ℕ) (xs : List A) (s : State) → IsAhead Low s → Stands (λ (e : LineFault). e.column) Low (λ (y : List A × State). IsAhead Low y.1) (more item n xs s)
      unfolding more
      more_calm zero xs s h = well h
      more_calm (suc n) xs s h =
          sign_cases (Stands (λ (e : LineFault). e.column) Low (λ (y : List A × State). IsAhead Low y.1)) comma (λ t. item xs t >>= λ x. more item n (xs ++ x.0 ∷ []) x.1) (Ok (xs, s)) s
          (λ t ts e. stands_then (λ x. more item n (xs ++ x.0 ∷ []) x.1) ((each xs).low (after t ts) (first_of_left Low s t ts h e)) (λ x last. stands_on (more_near Low (λ ys. (each ys).low) n (xs ++ x.0 ∷ []) x.1 last) (λ y near. near.ahead))) (well h)

      more_short : (n : ℕ) (xs : List A) (s : State) → Stands (λ (e : LineFault). e.column) Any (λ (y : List A × State). length y.1.left ≤ length s.left) (more item n xs s)
      unfolding more
      more_short zero xs s = well (omega arith)
      more_short (suc n) xs s =
          sign_cases (Stands (λ (e : LineFault). e.column) Any (λ (y : List A × State). length y.1.left ≤ length s.left)) comma (λ t. item xs t >>= λ x. more item n (xs ++ x.0 ∷ []) x.1) (Ok (xs, s)) s
          (λ t ts e. stands_then (λ x. more item n (xs ++ x.0 ∷ []) x.1) ((each xs).short (after t ts)) (λ x less. stands_on (more_short n (xs ++ x.0 ∷ []) x.1) (λ y fewer. let all = ap length e in omega (arith, all, less, fewer)))) (well (omega arith))

      more_along : (n m : ℕ) (xs : List A) (s t : State) → Agree s t → length s.left ≤ n → length t.left ≤ m → AlongAnswer (λ (e : LineFault). e.column) true (more item n xs s) (more item m xs t)
      unfolding more
      more_along n m xs s t (agree [] start end h e) enough many = fine e (more_calm m xs (record { left = q; start = start; end = end }) (edge_ahead start end h))
      more_along zero m xs s t (agree (x ∷ ts) start end h edge) enough many = absurd (omega arith)
      more_along (suc n) zero xs s t (agree (x ∷ ts) start end h edge) enough many = absurd (omega arith)
      more_along (suc n) (suc m) xs s t (agree (x ∷ ts) start end h edge) enough many =
          moved (λ u v. AlongAnswer (λ (e : LineFault). e.column) true u v) (sign_taken comma x (ts ++ r) start end (λ t. item xs t >>= λ x. more item n (xs ++ x.0 ∷ []) x.1) _) (sign_taken comma x (ts ++ q) start end (λ t. item xs t >>= λ x. more item m (xs ++ x.0 ∷ []) x.1) _)
          (by (is_the_sign comma x.token) (λ y. more_along n m (xs ++ y ∷ [])))
        where
          answers : ((y : A) (s t : State) → Agree s t → length s.left ≤ n → length t.left ≤ m → AlongAnswer (λ (e : LineFault). e.column) true (more item n (xs ++ y ∷ []) s) (more item m (xs ++ y ∷ []) t))
              → (u v : Answer A) → Stands (λ (e : LineFault). e.column) Any (λ (y : A × State). length y.1.left ≤ length (ts ++ r)) u → Stands (λ (e : LineFault). e.column) Any (λ (y : A × State). length y.1.left ≤ length (ts ++ q)) v
              → AlongAnswer (λ (e : LineFault). e.column) false u v → AlongAnswer (λ (e : LineFault). e.column) true (u >>= λ y. more item n (xs ++ y.0 ∷ []) y.1) (v >>= λ y. more item m (xs ++ y.0 ∷ []) y.1)
          answers rec u v (well k) (well l) (alike {x = y} {y = z} g) = subst (λ w. AlongAnswer (λ (e : LineFault). e.column) true (more item n (xs ++ y.0 ∷ []) y.1) (more item m (xs ++ w ∷ []) z.1)) g.0 (rec y.0 y.1 z.1 g.1 (omega arith) (omega arith))
          answers rec u v k l same = same
          answers rec u v k l (fine e g) = fine e (stands_then (λ y. more item m (xs ++ y.0 ∷ []) y.1) g (λ y near. stands_on (more_near Low (λ ys. (each ys).low) m (xs ++ y.0 ∷ []) y.1 near) (λ z close. close.ahead)))
          answers rec u v k l (void g) = void (stands_then (λ y. more item n (xs ++ y.0 ∷ []) y.1) g (λ y near. more_near High (λ ys. (each ys).high) n (xs ++ y.0 ∷ []) y.1 near))

          by : (test : Bool) → ((y : A) (s t : State) → Agree s t → length s.left ≤ n → length t.left ≤ m → AlongAnswer (λ (e : LineFault). e.column) true (more item n (xs ++ y ∷ []) s) (more item m (xs ++ y ∷ []) t))
              → AlongAnswer (λ (e : LineFault). e.column) true (cond test (item xs (after x (ts ++ r)) >>= λ y. more item n (xs ++ y.0 ∷ []) y.1) (Ok (xs, record { left = x ∷ (ts ++ r); start = start; end = end })))
              (cond test (item xs (after x (ts ++ q)) >>= λ y. more item m (xs ++ y.0 ∷ []) y.1) (Ok (xs, record { left = x ∷ (ts ++ q); start = start; end = end })))
          by true rec =
              elim (taken x ts end h edge) [
                | inl g ↦ answers rec (item xs (after x (ts ++ r))) (item xs (after x (ts ++ q))) ((each xs).short (after x (ts ++ r))) ((each xs).short (after x (ts ++ q))) ((each xs).along (after x (ts ++ r)) (after x (ts ++ q)) g)
                | inr near ↦ void (stands_then (λ y. more item n (xs ++ y.0 ∷ []) y.1) ((each xs).high (after x (ts ++ r)) near) (λ y close. more_near High (λ ys. (each ys).high) n (xs ++ y.0 ∷ []) y.1 close))
              ]
          by false rec = alike (refl, agree (x ∷ ts) start end h edge)

      more_rule : (x : A) → IsRule (λ (e : LineFault). e.column) false true (λ s. more item (length s.left) (x ∷ []) s)
      more_rule x = record {
        low = λ s h. more_near Low (λ ys. (each ys).low) (length s.left) (x ∷ []) s h;
        high = λ s h. more_near High (λ ys. (each ys).high) (length s.left) (x ∷ []) s h;
        along = λ s t g. more_along (length s.left) (length t.left) (x ∷ []) s t g (omega arith) (omega arith);
        short = λ s. more_short (length s.left) (x ∷ []) s;
      }

      pub listed_rule : IsRule (λ (e : LineFault). e.column) false true (listed item)
      unfolding listed
      listed_rule = then_rule false false (item []) true (λ x. more item (length x.1.left) (x.0 ∷ []) x.1) (each []) more_rule

    pub enclosed_rule : {A : Type 0} (opening_sign closing_sign : ℕ) (inside : State → Answer A) → IsRule (λ (e : LineFault). e.column) false true inside
        → IsRule (λ (e : LineFault). e.column) true false (λ s. sign opening_sign s >>= λ o. inside o >>= λ x. sign closing_sign x.1 >>= λ u. Ok (x.0, u))
    enclosed_rule opening_sign closing_sign inside K =
        sign_then false opening_sign _ (then_rule false true inside false (λ x. sign closing_sign x.1 >>= λ u. Ok (x.0, u)) K (λ x. sign_then false closing_sign (λ u. Ok (x, u)) (value_rule (λ e. e.column) x)))

    -- ---- repeated turns of an expression

    abbrev TextAnswer : Type 0 → Type 0
    TextAnswer A = Result (A × State) text.Fault

    abbrev TurnNear : {A : Type 0} → (ℕ → Type 0) → Option (TextAnswer A) → Type 0
    TurnNear P None = Unit {0}
    TurnNear P (Some answer) = Near (λ (e : text.Fault). e.place) P answer

    abbrev TurnShort : {A : Type 0} → ℕ → Option (TextAnswer A) → Type 0
    TurnShort n None = Unit {0}
    TurnShort {A} n (Some answer) = Stands (λ (e : text.Fault). e.place) Any (λ (x : A × State). length x.1.left < n) answer

    data AlongTurn {A : Type 0} : Option (TextAnswer A) → Option (TextAnswer A) → Type 0 where
      no_turn : AlongTurn None None
      turns : {u v : TextAnswer A} → AlongAnswer (λ (e : text.Fault). e.place) false u v → AlongTurn (Some u) (Some v)
      other_turns : {u : Option (TextAnswer A)} {v : TextAnswer A} → M → Near (λ (e : text.Fault). e.place) Low v → AlongTurn u (Some v)
      passed : {u : TextAnswer A} {v : Option (TextAnswer A)} → Near (λ (e : text.Fault). e.place) High u → AlongTurn (Some u) v

    -- A turn of a repetition.
    pub record IsTurn {A : Type 0} (T : State → Option (TextAnswer A)) : Type 0 where
      low : (s : State) → IsNear Low s → TurnNear Low (T s)
      high : (s : State) → IsNear High s → TurnNear High (T s)
      along : (s t : State) → Agree s t → AlongTurn (T s) (T t)
      short : (s : State) → TurnShort (length s.left) (T s)
      ends : (s : State) → s.left ≡ [] → T s ≡ None

    pub no_turn_more : {A : Type 0} → IsTurn {A = A} (λ s. None)
    no_turn_more = record { low = λ s h. tt; high = λ s h. tt; along = λ s t g. no_turn; short = λ s. tt; ends = λ s e. refl }

    -- A turn begins with this sign, or another turn stands there.
    pub sign_turn : {A : Type 0} (sgn : ℕ) (F : State → TextAnswer A) (D : State → Option (TextAnswer A)) → IsRule (λ (e : text.Fault). e.place) true false F → IsTurn D → IsTurn (λ s. option_map_or (λ t. Some (F t)) (after_sign sgn s) (D s))
    sign_turn {A} sgn F D K H = record {
      low = λ s h. sign_cases (TurnNear Low) sgn (λ t. Some (F t)) (D s) s (λ t ts e. K.low (after t ts) (first_of_left Low s t ts h.ahead e).ahead) (H.low s h);
      high = λ s h. sign_cases (TurnNear High) sgn (λ t. Some (F t)) (D s) s (λ t ts e. K.high (after t ts) (first_of_left High s t ts h.ahead e).ahead) (H.high s h);
      along = by;
      short = λ s. sign_cases (TurnShort (length s.left)) sgn (λ t. Some (F t)) (D s) s (λ t ts e. stands_on (K.short (after t ts)) (λ x less. let all = ap length e in omega (arith, all, less))) (H.short s);
      ends = λ s e. nothing s.left s.start s.end e (H.ends s e);
    }
      where
        nothing : (ts : List Placed) (start end : ℕ) → ts ≡ [] → D (record { left = ts; start = start; end = end }) ≡ None → option_map_or (λ t. Some (F t)) (after_sign sgn (record { left = ts; start = start; end = end })) (D (record { left = ts; start = start; end = end })) ≡ None
        nothing [] start end e h = sign_missing sgn start end (λ t. Some (F t)) (D (record { left = []; start = start; end = end })) ∙ h
        nothing (t ∷ ts) start end e h = absurd cc

        by : (s t : State) → Agree s t → AlongTurn (option_map_or (λ t. Some (F t)) (after_sign sgn s) (D s)) (option_map_or (λ t. Some (F t)) (after_sign sgn t) (D t))
        by s t (agree [] start end h m) =
            sign_cases (λ v. AlongTurn (option_map_or (λ t. Some (F t)) (after_sign sgn (record { left = r; start = start; end = end })) (D (record { left = r; start = start; end = end }))) v) sgn (λ t. Some (F t)) (D (record { left = q; start = start; end = end })) (record { left = q; start = start; end = end })
            (λ t ts e. other_turns m (K.low (after t ts) (first_of_other t ts e).ahead))
            (sign_cases (λ u. AlongTurn u (D (record { left = q; start = start; end = end }))) sgn (λ t. Some (F t)) (D (record { left = r; start = start; end = end })) (record { left = r; start = start; end = end })
            (λ t ts e. passed (K.high (after t ts) (first_of_one t ts e))) (H.along _ _ (agree [] start end h m)))
        by s t (agree (x ∷ ts) start end h edge) =
            moved AlongTurn (sign_taken sgn x (ts ++ r) start end (λ t. Some (F t)) _) (sign_taken sgn x (ts ++ q) start end (λ t. Some (F t)) _) (test (is_the_sign sgn x.token))
          where
            test : (c : Bool) → AlongTurn (cond c (Some (F (after x (ts ++ r)))) (D (record { left = x ∷ (ts ++ r); start = start; end = end }))) (cond c (Some (F (after x (ts ++ q)))) (D (record { left = x ∷ (ts ++ q); start = start; end = end })))
            test true = elim (taken x ts end h edge) [ inl g ↦ turns (K.along (after x (ts ++ r)) (after x (ts ++ q)) g) | inr near ↦ passed (K.high (after x (ts ++ r)) near.ahead) ]
            test false = H.along _ _ (agree (x ∷ ts) start end h edge)

    module _ {A : Type 0} (turn : A → State → Option (TextAnswer A)) (each : (x : A) → IsTurn (turn x)) where
      repeat_near : (P : ℕ → Type 0) → ((x : A) (s : State) → IsNear P s → TurnNear P (turn x s)) → (n : ℕ) (x : A) (s : State) → IsNear P s → Near (λ (e : text.Fault). e.place) P (repeat turn n x s)
      unfolding repeat
      repeat_near P near zero x s h = well h
      repeat_near P near (suc n) x s h = by (turn x s) (near x s h) (repeat_near P near n)
        where
          by : (o : Option (TextAnswer A)) → TurnNear P o → ((x : A) (s : State) → IsNear P s → Near (λ (e : text.Fault). e.place) P (repeat turn n x s)) → Near (λ (e : text.Fault). e.place) P (option_map_or (λ a. a >>= λ y. repeat turn n y.0 y.1) o (Ok (x, s)))
          by None now rec = well h
          by (Some a) now rec = stands_then (λ y. repeat turn n y.0 y.1) now (λ y close. rec y.0 y.1 close)

      repeat_short : (n : ℕ) (x : A) (s : State) → Stands (λ (e : text.Fault). e.place) Any (λ (y : A × State). length y.1.left ≤ length s.left) (repeat turn n x s)
      unfolding repeat
      repeat_short zero x s = well (omega arith)
      repeat_short (suc n) x s = by (turn x s) ((each x).short s) (repeat_short n)
        where
          by : (o : Option (TextAnswer A)) → TurnShort (length s.left) o → ((x : A) (s : State) → Stands (λ (e : text.Fault). e.place) Any (λ (y : A × State). length y.1.left ≤ length s.left) (repeat turn n x s))
              → Stands (λ (e : text.Fault). e.place) Any (λ (y : A × State). length y.1.left ≤ length s.left) (option_map_or (λ a. a >>= λ y. repeat turn n y.0 y.1) o (Ok (x, s)))
          by None now rec = well (omega arith)
          by (Some a) now rec = stands_then (λ y. repeat turn n y.0 y.1) now (λ y less. stands_on (rec y.0 y.1) (λ z fewer. omega (arith, less, fewer)))

      stopped : (n : ℕ) (x : A) (s : State) → turn x s ≡ None → repeat turn n x s ≡ Ok (x, s)
      unfolding repeat
      stopped zero x s e = refl
      stopped (suc n) x s e = ap (λ o. option_map_or (λ a. a >>= λ y. repeat turn n y.0 y.1) o (Ok (x, s))) e

      goes_on : (n : ℕ) (x : A) (s : State) (a : TextAnswer A) → turn x s ≡ Some a → repeat turn (suc n) x s ≡ (a >>= λ y. repeat turn n y.0 y.1)
      unfolding repeat
      goes_on n x s a e = ap (λ o. option_map_or (λ a. a >>= λ y. repeat turn n y.0 y.1) o (Ok (x, s))) e

      none_left : (s : State) → length s.left ≤ 0 → s.left ≡ []
      none_left s h = by s.left h
        where
          by : (ts : List Placed) → length ts ≤ 0 → ts ≡ []
          by [] k = refl
          by (t ∷ ts) k = absurd (omega arith)

      -- a turn that is near
      turn_near : (P : ℕ → Type 0) → ((x : A) (s : State) → IsNear P s → TurnNear P (turn x s)) → (n : ℕ) (x : A) (s : State) (a : TextAnswer A) → length s.left ≤ n → turn x s ≡ Some a → Near (λ (e : text.Fault). e.place) P a
          → Near (λ (e : text.Fault). e.place) P (repeat turn n x s)
      turn_near P near zero x s a enough e h = let none = (each x).ends s (none_left s enough) in absurd cc
      turn_near P near (suc n) x s a enough e h = subst (Near (λ (e : text.Fault). e.place) P) (sym (goes_on n x s a e)) (stands_then (λ y. repeat turn n y.0 y.1) h (λ y close. repeat_near P near n y.0 y.1 close))

      repeat_along : (n m : ℕ) (x : A) (s t : State) → Agree s t → length s.left ≤ n → length t.left ≤ m → AlongAnswer (λ (e : text.Fault). e.place) false (repeat turn n x s) (repeat turn m x t)
      repeat_along zero m x s t g enough many = by (turn x s) (turn x t) refl refl ((each x).along s t g)
        where
          by : (o p : Option (TextAnswer A)) → turn x s ≡ o → turn x t ≡ p → AlongTurn o p → AlongAnswer (λ (e : text.Fault). e.place) false (repeat turn zero x s) (repeat turn m x t)
          by o p e h no_turn = moved (λ u v. AlongAnswer (λ (e : text.Fault). e.place) false u v) (stopped zero x s e) (stopped m x t h) (alike (refl, g))
          by o p e h (turns a) = let none = (each x).ends s (none_left s enough) in absurd cc
          by o p e h (other_turns {v = v} k l) = fine k (turn_near Low (λ y. (each y).low) m x t v many h l)
          by o p e h (passed k) = let none = (each x).ends s (none_left s enough) in absurd cc
      repeat_along (suc n) m x s t g enough many = by m many (turn x s) (turn x t) refl refl ((each x).along s t g) (λ l y u v k few fewer. repeat_along n l y u v k few fewer)
        where
          Rec : Type 0
          Rec = (l : ℕ) (y : A) (s t : State) → Agree s t → length s.left ≤ n → length t.left ≤ l → AlongAnswer (λ (e : text.Fault). e.place) false (repeat turn n y s) (repeat turn l y t)

          answers : (l : ℕ) → Rec → (u v : TextAnswer A) → Stands (λ (e : text.Fault). e.place) Any (λ (y : A × State). length y.1.left ≤ n) u → Stands (λ (e : text.Fault). e.place) Any (λ (y : A × State). length y.1.left ≤ l) v
              → AlongAnswer (λ (e : text.Fault). e.place) false u v → AlongAnswer (λ (e : text.Fault). e.place) false (u >>= λ y. repeat turn n y.0 y.1) (v >>= λ y. repeat turn l y.0 y.1)
          answers l rec u v (well few) (well fewer) (alike {x = y} {y = z} k) = subst (λ w. AlongAnswer (λ (e : text.Fault). e.place) false (repeat turn n y.0 y.1) (repeat turn l w z.1)) k.0 (rec l y.0 y.1 z.1 k.1 few fewer)
          answers l rec u v few fewer same = same
          answers l rec u v few fewer (fine e k) = fine e (stands_then (λ y. repeat turn l y.0 y.1) k (λ y near. repeat_near Low (λ z. (each z).low) l y.0 y.1 near))
          answers l rec u v few fewer (void k) = void (stands_then (λ y. repeat turn n y.0 y.1) k (λ y near. repeat_near High (λ z. (each z).high) n y.0 y.1 near))

          few : (s : State) (k : ℕ) (a : TextAnswer A) → turn x s ≡ Some a → length s.left ≤ suc k → Stands (λ (e : text.Fault). e.place) Any (λ (y : A × State). length y.1.left ≤ k) a
          few s k a e less = stands_on (let P : Option (TextAnswer A) → Type 0 = TurnShort (length s.left) in subst P e ((each x).short s)) (λ y fewer. omega (arith, less, fewer))

          by : (m : ℕ) → length t.left ≤ m → (o p : Option (TextAnswer A)) → turn x s ≡ o → turn x t ≡ p → AlongTurn o p → Rec → AlongAnswer (λ (e : text.Fault). e.place) false (repeat turn (suc n) x s) (repeat turn m x t)
          by m many o p e h no_turn rec = moved (λ u v. AlongAnswer (λ (e : text.Fault). e.place) false u v) (stopped (suc n) x s e) (stopped m x t h) (alike (refl, g))
          by zero many o p e h (turns a) rec = let none = (each x).ends t (none_left t many) in absurd cc
          by (suc m) many o p e h (turns {u = u} {v = v} a) rec = moved (λ u v. AlongAnswer (λ (e : text.Fault). e.place) false u v) (goes_on n x s u e) (goes_on m x t v h) (answers m rec u v (few s n u e enough) (few t m v h many) a)
          by m many o p e h (other_turns {v = v} k l) rec = fine k (turn_near Low (λ y. (each y).low) m x t v many h l)
          by m many o p e h (passed {u = u} k) rec = void (turn_near High (λ y. (each y).high) (suc n) x s u enough e k)

      pub repeat_rule : (x : A) → IsRule (λ (e : text.Fault). e.place) false false (λ s. repeat turn (length s.left) x s)
      repeat_rule x = record {
        low = λ s h. repeat_near Low (λ y. (each y).low) (length s.left) x s h;
        high = λ s h. repeat_near High (λ y. (each y).high) (length s.left) x s h;
        along = λ s t g. repeat_along (length s.left) (length t.left) x s t g (omega arith) (omega arith);
        short = λ s. repeat_short (length s.left) x s;
      }
