-- Laws of certificates handed on.
use Rattle.std.specs.Prelude.{◌≡◌, List, [], ◌++◌, All, filter}
use Rattle.std.specs.List.{AllZip}
use Rattle.fj_plain.specs.declared.cert.Cert.{Cert}
use Rattle.fj_audit.specs.Account.{Account, Remains}
use Rattle.fj_audit.specs.Handing.{AreShownAll, AreShownFront, IsAsGood, remains}

-- Auditors that are shown nothing are as before.
abbrev pub NothingIsShown : Type 0
NothingIsShown = ((a : List Account) → AreShownAll [] a a) × ((a b : List Account) → AreShownAll [] a b → b ≡ a)

-- Those that are shown one list and then another are shown both.
abbrev pub ShownOneAfterTheOther : Type 0
ShownOneAfterTheOther = (cs ds : List Cert) (a b c : List Account) → AreShownAll cs a b → AreShownAll ds b c → AreShownAll (cs ++ ds) a c

-- They keep their titles, and none finds one of the certificates bad.
abbrev pub ShownAreAsGood : Type 0
ShownAreAsGood = (cs : List Cert) (a b : List Account) → AreShownAll cs a b → AllZip IsAsGood a b

-- So too where memory was wanting.
abbrev pub FrontsAreAsGood : Type 0
FrontsAreAsGood = (cs : List Cert) (a b : List Account) → AreShownFront cs a b → AllZip IsAsGood a b

-- As good as such that are as good is as good.
abbrev pub AsGoodAfterAsGood : Type 0
AsGoodAfterAsGood = (a b c : List Account) → AllZip IsAsGood a b → AllZip IsAsGood b c → AllZip IsAsGood a c

-- Those that are kept where the others are dropped remain.
abbrev pub KeptRemain : Type 0
KeptRemain = (a : List Account) → All Remains (filter remains a)
