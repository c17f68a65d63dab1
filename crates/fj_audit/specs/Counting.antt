-- The accounts of auditors that count.
use Rattle.std.specs.Prelude.{ℕ, List, None, Some, codes}
use Rattle.fj_plain.specs.declared.cert.Cert.{Cert}
use Rattle.fj_audit.specs.Account.{Account}

-- How many certificates were seen, and how many of them are bad.
pub record Counts : Type 0 where
  pub seen : ℕ
  pub bad : ℕ

-- One that checks each certificate again, and tells no list.
abbrev pub recheck_account : Counts → Account
recheck_account s = record { title = codes "recheck"; seen = s.seen; bad = s.bad; faults = 0; noted = None }

-- One that counts alone, by how many it saw, and tells no list.
abbrev pub tally_account : ℕ → Account
tally_account seen = record { title = codes "tally"; seen = seen; bad = 0; faults = 0; noted = None }

-- How many certificates were seen, and the list of them, the first first.
pub record KeptCerts : Type 0 where
  pub seen : ℕ
  pub certs : List Cert

-- One that keeps the certificates, and tells them.
abbrev pub keep_account : KeptCerts → Account
keep_account s = record { title = codes "keep"; seen = s.seen; bad = 0; faults = 0; noted = Some s.certs }
