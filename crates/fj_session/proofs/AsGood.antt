-- Auditors that are as good as before.
use Rattle.std.proofs.Common.{◌≡◌, ◌⊎◌, inl, inr, Bool, true, false, cond, List, [], ◌∷◌, filter, map, refl, sym, ap, ◌∙◌, subst}
use Rattle.std.specs.List.{AllZip}
use Rattle.fj_audit.specs.Account.{Account}
use Rattle.fj_audit.specs.Handing.{AreShownAll, AreShownFront, IsAsGood, remains}
use Rattle.fj_audit.proofs.Shown.{AreShownAll-nil, IsAsGood-AreShownAll, IsAsGood-AreShownFront}
use Rattle.fj_plain.specs.declared.cert.Cert.{Cert}
use Rattle.fj_script.specs.declared.question.Asked.{Asked}
use Rattle.fj_script.specs.declared.script.Env.{Env}
use Rattle.fj_session.specs.Answer.{Certifies, IsAnswer}
use Rattle.fj_session.specs.declared.types.Answer.{Answer}

pub as_good_same : (a b : List Account) → b ≡ a → AllZip IsAsGood a b
as_good_same a b same = subst (AllZip IsAsGood a) (sym same) (IsAsGood-AreShownAll [] a a (AreShownAll-nil a))

-- What is said of auditors after a list that is as before.
pub good_from_same : (a b c : List Account) → b ≡ a → AllZip IsAsGood b c → AllZip IsAsGood a c
good_from_same a b c same good = subst (λ x. AllZip IsAsGood x c) same good

pub shown_from_same : (certs : List Cert) (a b c : List Account) → b ≡ a → AreShownAll certs b c → AreShownAll certs a c
shown_from_same certs a b c same shown = subst (λ x. AreShownAll certs x c) same shown

pub shown_nothing : (a b : List Account) → b ≡ a → AreShownAll [] a b
shown_nothing a b same = subst (AreShownAll [] a) (sym same) (AreShownAll-nil a)

-- Where memory was wanting for an answer, or for one of its certificates.
pub as_good_wanting : (env : Env) (asked : Asked) (a b : List Account)
    → (b ≡ a) ⊎ ((x : Answer) × IsAnswer env asked x × ((certs : List Cert) × Certifies env asked x certs × AreShownFront certs a b)) → AllZip IsAsGood a b
as_good_wanting env asked a b wanting =
    elim wanting [ inl same ↦ as_good_same a b same | inr front ↦ IsAsGood-AreShownFront front.2.0 a b front.2.2 ]

-- The accounts of those that are kept are those that remain.
accounts_kept : {X : Type 0} (f : X → Account) (xs : List X) → map f (filter (λ x. remains (f x)) xs) ≡ filter remains (map f xs)
accounts_kept f [] = refl
accounts_kept f (x ∷ xs) = by (remains (f x)) ∙ ap (λ rest. cond (remains (f x)) (f x ∷ rest) rest) (accounts_kept f xs)
  where
    by : (b : Bool) → map f (cond b (x ∷ filter (λ y. remains (f y)) xs) (filter (λ y. remains (f y)) xs)) ≡ cond b (f x ∷ map f (filter (λ y. remains (f y)) xs)) (map f (filter (λ y. remains (f y)) xs))
    by true = refl
    by false = refl

pub accounts_swept : {X : Type 0} (f : X → Account) (old new : List X) → new ≡ filter (λ x. remains (f x)) old → map f new ≡ filter remains (map f old)
accounts_swept f old new kept = ap (map f) kept ∙ accounts_kept f old
