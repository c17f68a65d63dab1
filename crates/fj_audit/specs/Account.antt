-- What is known of an auditor, and what a note leaves of it.
use Rattle.std.specs.Prelude.{◌≡◌, ℕ, ◌<◌, ◌≤◌, List, [], ◌∷◌, ◌++◌, Bool, true, if◌then◌else◌, Result, IfOk, IfErr}
use Rattle.std.specs.Option.{option_map}
use Rattle.std.specs.declared.option.Option.{Option}
use Rattle.fj_io.specs.Outside.{next_count, Rose}
use Rattle.fj_plain.specs.declared.cert.Cert.{Cert}
use Rattle.fj_plain.specs.Holds.{Holds}
use Rattle.fj_audit.specs.declared.fault.AuditFault.{AuditFault}
use Rattle.fj_audit.specs.declared.fault.AuditFault.TheVariants.{Failed, Memory}

-- Its title, the numbers of certificates noted, of those found bad and of its faults, and the certificates noted, the
-- first first, where it tells them.
pub record Account : Type 0 where
  pub title : List ℕ
  pub seen : ℕ
  pub bad : ℕ
  pub faults : ℕ
  pub noted : Option (List Cert)

-- An auditor of this title that was shown nothing.
abbrev pub new_account : List ℕ → Option (List Cert) → Account
new_account title noted = record { title = title; seen = 0; bad = 0; faults = 0; noted = noted }

-- After a note that answered b: one more was seen, one more is bad where b is false, and the list is longer by c.
abbrev pub after_note : Account → Cert → Bool → Account
after_note a c b = record { title = a.title; seen = next_count a.seen; bad = if b then a.bad else next_count a.bad; faults = a.faults; noted = option_map (λ cs. cs ++ c ∷ []) a.noted }

-- It is as before but for its faults.
abbrev pub IsSameButFaults : Account → Account → Type 0
IsSameButFaults before now = now ≡ record { title = before.title; seen = before.seen; bad = before.bad; faults = now.faults; noted = before.noted }

-- A note that failed had a fault, and one that wanted memory left all as before. Neither noted anything.
abbrev pub IsRefused : Account → Account → AuditFault → Type 0
IsRefused before now Failed = IsSameButFaults before now × (before.faults ≤ now.faults) × Rose before.faults now.faults
IsRefused before now Memory = now ≡ before

-- What a note of c leaves.
pub record Notes (before now : Account) (c : Cert) (result : Result Bool AuditFault) : Type 0 where
  pub noted : IfOk result (λ b. now ≡ after_note before c b)
  pub sound : Holds c → IfOk result (λ b. b ≡ true)
  pub refused : IfErr result (IsRefused before now)

-- It remains where it had no fault, and is out where it had one.
abbrev pub Remains : Account → Type 0
Remains a = a.faults ≡ 0

abbrev pub IsOut : Account → Type 0
IsOut a = 0 < a.faults
