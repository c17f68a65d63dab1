-- An auditor that counts, and fails the notes whose numbers are listed.
use Rattle.std.specs.Prelude.{ℕ, None, codes}
use Rattle.fj_io.specs.Outside.{next_count}
use Rattle.fj_io.specs.Memory.{Schedule, after_call, after_fault}
use Rattle.fj_audit.specs.Account.{Account}

-- The numbers of the notes that fail, how many were made and failed, and how many certificates were seen.
pub record Flaky : Type 0 where
  pub schedule : Schedule
  pub seen : ℕ

-- As an auditor: none is bad, and no list is told.
abbrev pub flaky_account : Flaky → Account
flaky_account f = record { title = codes "flaky"; seen = f.seen; bad = 0; faults = f.schedule.faults; noted = None }

-- After a note that isn't listed.
abbrev pub after_flaky_note : Flaky → Flaky
after_flaky_note f = record { schedule = after_call f.schedule; seen = next_count f.seen }

-- After a note that is listed.
abbrev pub after_flaky_fault : Flaky → Flaky
after_flaky_fault f = record { schedule = after_fault f.schedule; seen = f.seen }
