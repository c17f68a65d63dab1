-- Auditors that are shown a list of certificates that hold: nothing, one certificate, one list after another, and what they
-- found.
use Rattle.std.proofs.Common.{◌≡◌, ◌⊎◌, inl, inr, ⊎_elim, eq-zero-or-pos, ℕ, zero, suc, ◌+◌, ◌<◌, ◌≤◌, Bool, true, List, [], ◌∷◌, ◌++◌, All, filter, length, take, get_or, refl, sym, ap, ap₂, ◌∙◌, subst, subst₂, arith}
use Rattle.std.specs.List.{AllZip}
use Rattle.std.proofs.Math.Seq.{take-append-add}
use Rattle.std.proofs.lemmas.List.{length-append, length-take-le, take-append-le, take_more}
use Rattle.std.proofs.lemmas.List.Elements.{All-weaker, filter_passes}
use Rattle.std.proofs.lemmas.Bool.{eqb-true}
use Rattle.fj_plain.specs.declared.cert.Cert.{Cert}
use Rattle.fj_plain.specs.Holds.{Holds}
use Rattle.fj_audit.specs.Account.{Account, after_note, Remains, IsOut, IsSameButFaults}
use Rattle.fj_audit.specs.Handing.{after_good, IsShown, AreShown, AreShownInPart, IsOutWithin, IsShownAll, AreShownAll, IsShownFront, AreShownFront, IsAsGood, remains}

-- The first n of the first m.
take_within : {X : Type 0} (n m : ℕ) (xs : List X) → n ≤ m → take n (take m xs) ≡ take n xs
take_within zero m xs l = refl
take_within (suc n) zero xs l = absurd (omega (arith, l))
take_within (suc n) (suc m) [] l = refl
take_within (suc n) (suc m) (x ∷ xs) l = ap (λ ys. x ∷ ys) (take_within n m xs (omega (arith, l)))

-- What holds from one list to the next, and on to a third.
pub AllZip-trans : {X Y Z : Type 0} (P : X → Y → Type 0) (Q : Y → Z → Type 0) (R : X → Z → Type 0) → ((x : X) (y : Y) (z : Z) → P x y → Q y z → R x z)
    → (a : List X) (b : List Y) (c : List Z) → AllZip P a b → AllZip Q b c → AllZip R a c
AllZip-trans P Q R f [] [] [] p q = tt
AllZip-trans P Q R f [] [] (z ∷ c) p q = absurd q
AllZip-trans P Q R f [] (y ∷ b) c p q = absurd p
AllZip-trans P Q R f (x ∷ a) [] c p q = absurd p
AllZip-trans P Q R f (x ∷ a) (y ∷ b) [] p q = absurd q
AllZip-trans P Q R f (x ∷ a) (y ∷ b) (z ∷ c) p q = (f x y z p.0 q.0, AllZip-trans P Q R f a b c p.1 q.1)

AllZip-weaker : {X Y : Type 0} (P R : X → Y → Type 0) → ((x : X) (y : Y) → P x y → R x y) → (a : List X) (b : List Y) → AllZip P a b → AllZip R a b
AllZip-weaker P R f [] [] p = tt
AllZip-weaker P R f [] (y ∷ b) p = absurd p
AllZip-weaker P R f (x ∷ a) [] p = absurd p
AllZip-weaker P R f (x ∷ a) (y ∷ b) p = (f x y p.0, AllZip-weaker P R f a b p.1)

AllZip-same : {X : Type 0} (R : X → X → Type 0) → ((x : X) → R x x) → (a : List X) → AllZip R a a
AllZip-same R f [] = tt
AllZip-same R f (x ∷ a) = (f x, AllZip-same R f a)

AllZip-append : {X Y : Type 0} (R : X → Y → Type 0) (a : List X) (b : List Y) (c : List X) (d : List Y) → AllZip R a b → AllZip R c d → AllZip R (a ++ c) (b ++ d)
AllZip-append R [] [] c d p q = q
AllZip-append R [] (y ∷ b) c d p q = absurd p
AllZip-append R (x ∷ a) [] c d p q = absurd p
AllZip-append R (x ∷ a) (y ∷ b) c d p q = (p.0, AllZip-append R a b c d p.1 q)

after_good-append : (a : Account) (cs ds : List Cert) → after_good a (cs ++ ds) ≡ after_good (after_good a cs) ds
unfolding after_good
after_good-append a [] ds = refl
after_good-append a (c ∷ cs) ds = after_good-append (after_note a c true) cs ds

after_good-nil : (a : Account) → after_good a [] ≡ a
unfolding after_good
after_good-nil a = refl

after_good-one : (a : Account) (c : Cert) → after_good a (c ∷ []) ≡ after_note a c true
unfolding after_good
after_good-one a c = refl

title-after_good : (a : Account) (cs : List Cert) → (after_good a cs).title ≡ a.title
unfolding after_good
title-after_good a [] = refl
title-after_good a (c ∷ cs) = title-after_good (after_note a c true) cs

bad-after_good : (a : Account) (cs : List Cert) → (after_good a cs).bad ≡ a.bad
unfolding after_good
bad-after_good a [] = refl
bad-after_good a (c ∷ cs) = bad-after_good (after_note a c true) cs

-- No auditor remains and is out.
never_both : {X : Type 0} (a : Account) → Remains a → IsOut a → X
never_both a r o = absurd (omega (arith, r, o))

out_as : (a b : Account) → b ≡ a → IsOut a → IsOut b
out_as a b e o = let f = ap (λ x. x.faults) e in omega (arith, f, o)

-- One auditor that is shown nothing.
shown_nothing : (x : Account) → IsShownAll [] x x
shown_nothing x = record {
  noted = λ r s. sym (after_good-nil x);
  failed = λ r o. never_both x r o;
  unchanged = λ o. refl;
}

as_before : (x y : Account) → IsShownAll [] x y → y ≡ x
as_before x y s = ⊎_elim (λ r. ⊎_elim (λ k. s.noted r k ∙ after_good-nil x) (λ o. let out = s.failed r o in let l = out.short in absurd (omega (arith, l))) (eq-zero-or-pos y.faults)) s.unchanged (eq-zero-or-pos x.faults)

-- Out within the first certificates, or within those of a longer list.
out_within-append : (cs ds : List Cert) (x y : Account) → IsOutWithin cs x y → IsOutWithin (cs ++ ds) x y
out_within-append cs ds x y out =
    let l = out.short in
    let n = length-append cs ds in
    record {
      count = out.count;
      short = omega (arith, l, n);
      same = subst (λ es. IsSameButFaults (after_good x es) y) (sym (take-append-le out.count cs ds (omega (arith, l)))) out.same;
    }

out_within-take : (k : ℕ) (cs : List Cert) (x y : Account) → k ≤ length cs → IsOutWithin (take k cs) x y → IsOutWithin cs x y
out_within-take k cs x y fits out =
    let l : out.count < k = below out.short in
    record {
      count = out.count;
      short = omega (arith, l, fits);
      same = subst (λ es. IsSameButFaults (after_good x es) y) (take_within out.count k cs (omega (arith, l))) out.same;
    }
  where
    below : {n : ℕ} → n < length (take k cs) → n < k
    below {n} h = let e = length-take-le k cs fits in omega (arith, h, e)

out_within-after : (cs ds : List Cert) (x y z : Account) → y ≡ after_good x cs → IsOutWithin ds y z → IsOutWithin (cs ++ ds) x z
out_within-after cs ds x y z is out =
    let l = out.short in
    let n = length-append cs ds in
    let noted : after_good y (take out.count ds) ≡ after_good x (take (length cs + out.count) (cs ++ ds)) =
    ap (λ a. after_good a (take out.count ds)) is ∙ sym (after_good-append x cs (take out.count ds)) ∙ ap (after_good x) (sym (take-append-add cs ds out.count)) in
    record {
      count = length cs + out.count;
      short = omega (arith, l, n);
      same = subst (λ a. IsSameButFaults a z) noted out.same;
    }

-- One auditor that is shown one list and then another.
shown_after : (cs ds : List Cert) (x y z : Account) → IsShownAll cs x y → IsShownAll ds y z → IsShownAll (cs ++ ds) x z
shown_after cs ds x y z s t = record {
  noted = λ r k. ⊎_elim
      (λ m. t.noted m k ∙ ap (λ a. after_good a ds) (s.noted r m) ∙ sym (after_good-append x cs ds))
      (λ o. never_both z k (out_as y z (t.unchanged o) o))
      (eq-zero-or-pos y.faults);
  failed = λ r o. ⊎_elim
      (λ m. out_within-after cs ds x y z (s.noted r m) (t.failed m o))
      (λ n. subst (IsOutWithin (cs ++ ds) x) (sym (t.unchanged n)) (out_within-append cs ds x y (s.failed r n)))
      (eq-zero-or-pos y.faults);
  unchanged = λ o. t.unchanged (out_as x y (s.unchanged o) o) ∙ s.unchanged o;
}

-- One certificate that holds.
shown_one : (c : Cert) → Holds c → (x y : Account) → IsShown c x y → IsShownAll (c ∷ []) x y
shown_one c holds x y s = record {
  noted = λ r k. let n = s.noted r k in n.1 ∙ ap (after_note x c) (n.2 holds) ∙ sym (after_good-one x c);
  failed = λ r o. record { count = 0; short = omega arith; same = subst (λ a. IsSameButFaults a y) (sym (after_good-nil x)) (s.failed r o) };
  unchanged = s.unchanged;
}

-- It keeps its title, and finds none bad.
good_same : (x y : Account) → y ≡ x → IsAsGood x y
good_same x y e = record { title = ap (λ a. a.title) e; bad = ap (λ a. a.bad) e }

good_after : (x y : Account) (cs : List Cert) → y ≡ after_good x cs → IsAsGood x y
good_after x y cs e = record { title = ap (λ a. a.title) e ∙ title-after_good x cs; bad = ap (λ a. a.bad) e ∙ bad-after_good x cs }

good_out : (cs : List Cert) (x y : Account) → IsOutWithin cs x y → IsAsGood x y
good_out cs x y out =
    let front = take out.count cs in
    record { title = ap (λ a. a.title) out.same ∙ title-after_good x front; bad = ap (λ a. a.bad) out.same ∙ bad-after_good x front }

good_shown : (cs : List Cert) (x y : Account) → IsShownAll cs x y → IsAsGood x y
good_shown cs x y s =
    ⊎_elim (λ r. ⊎_elim (λ k. good_after x y cs (s.noted r k)) (λ o. good_out cs x y (s.failed r o)) (eq-zero-or-pos y.faults))
    (λ o. good_same x y (s.unchanged o)) (eq-zero-or-pos x.faults)

good_front : (cs : List Cert) (k : ℕ) (x y : Account) → IsShownFront cs k x y → IsAsGood x y
good_front cs k x y s =
    ⊎_elim (λ r. ⊎_elim (λ m. ⊎_elim (good_after x y (take k cs)) (good_after x y (take (k + 1) cs)) (s.noted r m)) (λ o. good_out cs x y (s.failed r o)) (eq-zero-or-pos y.faults))
    (λ o. good_same x y (s.unchanged o)) (eq-zero-or-pos x.faults)

-- The first k certificates, or one more, of a longer list.
front_before : (cs : List Cert) (k : ℕ) → k ≤ length cs → (x y : Account) → IsShownAll (take k cs) x y → IsShownFront cs k x y
front_before cs k fits x y s = record {
  noted = λ r m. inl (s.noted r m);
  failed = λ r o. out_within-take k cs x y fits (s.failed r o);
  unchanged = s.unchanged;
}

front_after : (cs : List Cert) (k : ℕ) → k + 1 ≤ length cs → (x y : Account) → IsShownAll (take (k + 1) cs) x y → IsShownFront cs k x y
front_after cs k fits x y s = record {
  noted = λ r m. inr (s.noted r m);
  failed = λ r o. out_within-take (k + 1) cs x y fits (s.failed r o);
  unchanged = s.unchanged;
}

-- Lists of auditors. Shown nothing, they are as before.
pub AreShownAll-nil : (a : List Account) → AreShownAll [] a a
AreShownAll-nil a = AllZip-same (IsShownAll []) shown_nothing a

pub same-AreShownAll : (a b : List Account) → AreShownAll [] a b → b ≡ a
same-AreShownAll [] [] s = refl
same-AreShownAll [] (y ∷ b) s = absurd s
same-AreShownAll (x ∷ a) [] s = absurd s
same-AreShownAll (x ∷ a) (y ∷ b) s = ap₂ ◌∷◌ (as_before x y s.0) (same-AreShownAll a b s.1)

-- Shown one list and then another, they are shown both.
pub AreShownAll-append : (cs ds : List Cert) (a b c : List Account) → AreShownAll cs a b → AreShownAll ds b c → AreShownAll (cs ++ ds) a c
AreShownAll-append cs ds a b c s t = AllZip-trans (IsShownAll cs) (IsShownAll ds) (IsShownAll (cs ++ ds)) (shown_after cs ds) a b c s t

-- They are as good as before, also where memory was wanting.
pub IsAsGood-AreShownAll : (cs : List Cert) (a b : List Account) → AreShownAll cs a b → AllZip IsAsGood a b
IsAsGood-AreShownAll cs a b s = AllZip-weaker (IsShownAll cs) IsAsGood (good_shown cs) a b s

pub IsAsGood-AreShownFront : (cs : List Cert) (a b : List Account) → AreShownFront cs a b → AllZip IsAsGood a b
IsAsGood-AreShownFront cs a b s = AllZip-weaker (IsShownFront cs s.k) IsAsGood (good_front cs s.k) a b s.shown

pub IsAsGood-trans : (a b c : List Account) → AllZip IsAsGood a b → AllZip IsAsGood b c → AllZip IsAsGood a c
IsAsGood-trans a b c s t =
    AllZip-trans IsAsGood IsAsGood IsAsGood (λ x y z p q. record { title = q.title ∙ p.title; bad = q.bad ∙ p.bad }) a b c s t

-- Shown one list, and then the front of another.
pub IsAsGood-AreShownAll-AreShownFront : (cs ds : List Cert) (a b c : List Account) → AreShownAll cs a b → AreShownFront ds b c → AllZip IsAsGood a c
IsAsGood-AreShownAll-AreShownFront cs ds a b c s t = IsAsGood-trans a b c (IsAsGood-AreShownAll cs a b s) (IsAsGood-AreShownFront ds b c t)

-- Those that are kept remain.
pub All-filter_remains : {X : Type 0} (f : X → Account) (xs : List X) → All (λ x. Remains (f x)) (filter (λ x. remains (f x)) xs)
All-filter_remains f xs = All-weaker (λ x. remains (f x) ≡ true) (λ x. Remains (f x)) (λ x e. eqb-true (f x).faults 0 e) (filter (λ x. remains (f x)) xs) (filter_passes (λ x. remains (f x)) xs)

-- A list of certificates that hold, of which the first i were handed on, and the next one is c.
module _ (cs : List Cert) (i : ℕ) (c : Cert) (l : i < length cs) (at : c ≡ get_or cs i c) (all : All Holds cs) where
  holds : Holds c
  holds = subst Holds (sym at) (all i c l)

  more : take (i + 1) cs ≡ take i cs ++ c ∷ []
  more = take_more cs i c l ∙ ap (λ e. take i cs ++ e ∷ []) (sym at)

  next_shown : (x y z : Account) → IsShownAll (take i cs) x y → IsShown c y z → IsShownAll (take (i + 1) cs) x z
  next_shown x y z s t = subst (λ es. IsShownAll es x z) (sym more) (shown_after (take i cs) (c ∷ []) x y z s (shown_one c holds y z t))

  -- It is handed to all.
  pub AreShownAll-next : (a b d : List Account) → AreShownAll (take i cs) a b → AreShown c b d → AreShownAll (take (i + 1) cs) a d
  AreShownAll-next a b d s t = AllZip-trans (IsShownAll (take i cs)) (IsShown c) (IsShownAll (take (i + 1) cs)) next_shown a b d s t

  -- Memory is wanting while it is handed on.
  in_part : (b d : List Account) → AreShownInPart c b d → AllZip (λ y z. IsShown c y z ⊎ (z ≡ y)) b d
  in_part b d t =
      let Q : Account → Account → Type 0 = λ y z. IsShown c y z ⊎ (z ≡ y) in
      let end = t.wanting ∷ t.rest in
      subst₂ (AllZip Q) (sym t.before_is) (sym t.now_is)
      (AllZip-append Q t.first t.shown end end (AllZip-weaker (IsShown c) Q (λ y z s. inl s) t.first t.shown t.are_shown) (AllZip-same Q (λ y. inr refl) end))

  front_next : (x y z : Account) → IsShownAll (take i cs) x y → IsShown c y z ⊎ (z ≡ y) → IsShownFront cs i x z
  front_next x y z s t =
      ⊎_elim (λ shown. front_after cs i (omega (arith, l)) x z (next_shown x y z s shown)) (λ e. subst (IsShownFront cs i x) (sym e) (front_before cs i (omega (arith, l)) x y s)) t

  pub AreShownFront-next : (a b d : List Account) → AreShownAll (take i cs) a b → AreShownInPart c b d → AreShownFront cs a d
  AreShownFront-next a b d s t = record {
    k = i;
    short = l;
    shown = AllZip-trans (IsShownAll (take i cs)) (λ y z. IsShown c y z ⊎ (z ≡ y)) (IsShownFront cs i) front_next a b d s (in_part b d t);
  }
