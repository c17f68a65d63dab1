-- A certificate handed to a list of auditors, and the list without those that are out.
use Rattle.std.specs.Prelude.{◌≡◌, ◌==◌, ◌⊎◌, ℕ, ◌<◌, ◌+◌, List, [], ◌∷◌, ◌++◌, ◌↔◌, Bool, true, not, length, take}
use Rattle.std.specs.List.{AllZip}
use Rattle.fj_io.specs.Outside.{Rose}
use Rattle.fj_plain.specs.declared.cert.Cert.{Cert}
use Rattle.fj_plain.specs.Holds.{Holds}
use Rattle.fj_audit.specs.Account.{Account, after_note, Remains, IsOut, IsSameButFaults}

-- It noted c by a note that answered, with true where c holds.
abbrev pub HasNoted : Cert → Account → Account → Type 0
HasNoted c before now = (b : Bool) × (now ≡ after_note before c b) × (Holds c → b ≡ true)

-- One auditor of the list: it noted c and remains, or failed and is out and else as before, exactly where its count of
-- faults rose; one that was out is unchanged.
pub record IsShown (c : Cert) (before now : Account) : Type 0 where
  pub noted : Remains before → Remains now → HasNoted c before now
  pub failed : Remains before → IsOut now → IsSameButFaults before now
  pub cause : Remains before → IsOut now ↔ Rose before.faults now.faults
  pub unchanged : IsOut before → now ≡ before

-- The same auditors at the same places, each shown c.
abbrev pub AreShown : Cert → List Account → List Account → Type 0
AreShown c before now = AllZip (IsShown c) before now

-- The list where memory was wanting: those before an auditor that remains were shown c, and it and all after it are as
-- before.
pub record AreShownInPart (c : Cert) (before now : List Account) : Type 0 where
  pub first : List Account
  pub shown : List Account
  pub rest : List Account
  pub wanting : Account
  pub before_is : before ≡ first ++ wanting ∷ rest
  pub now_is : now ≡ shown ++ wanting ∷ rest
  pub are_shown : AreShown c first shown
  pub remains : Remains wanting

-- Whether it remains, and whether it is out.
abbrev pub remains : Account → Bool
remains a = a.faults == 0

abbrev pub is_out : Account → Bool
is_out a = not (remains a)

-- The account after notes of these certificates, the first first, that found each of them good.
unfoldable pub after_good : Account → List Cert → Account
after_good a [] = a
after_good a (c ∷ certs) = after_good (after_note a c true) certs

-- It noted certificates up to one of the list, which it failed, and is else as it was then.
pub record IsOutWithin (certs : List Cert) (before now : Account) : Type 0 where
  pub count : ℕ
  pub short : count < length certs
  pub same : IsSameButFaults (after_good before (take count certs)) now

-- One auditor, shown a list of certificates that hold: it noted all of them and found none bad, or failed one of them and is
-- out; one that was out is unchanged.
pub record IsShownAll (certs : List Cert) (before now : Account) : Type 0 where
  pub noted : Remains before → Remains now → now ≡ after_good before certs
  pub failed : Remains before → IsOut now → IsOutWithin certs before now
  pub unchanged : IsOut before → now ≡ before

-- The same auditors at the same places, each shown all of these certificates.
abbrev pub AreShownAll : List Cert → List Account → List Account → Type 0
AreShownAll certs before now = AllZip (IsShownAll certs) before now

-- One auditor where memory was wanting after the first k certificates: it noted these, or one more.
pub record IsShownFront (certs : List Cert) (k : ℕ) (before now : Account) : Type 0 where
  pub noted : Remains before → Remains now → (now ≡ after_good before (take k certs)) ⊎ (now ≡ after_good before (take (k + 1) certs))
  pub failed : Remains before → IsOut now → IsOutWithin certs before now
  pub unchanged : IsOut before → now ≡ before

-- The same auditors at the same places, with one k.
pub record AreShownFront (certs : List Cert) (before now : List Account) : Type 0 where
  pub k : ℕ
  pub short : k < length certs
  pub shown : AllZip (IsShownFront certs k) before now

-- The auditor of the same title, which found no more certificates bad than before.
pub record IsAsGood (before now : Account) : Type 0 where
  pub title : now.title ≡ before.title
  pub bad : now.bad ≡ before.bad
