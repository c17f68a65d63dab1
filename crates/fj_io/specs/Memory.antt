-- A source and a sink in memory, whose calls fail by a list of their numbers.
use Rattle.std.specs.Prelude.{ℕ, ◌==◌, ◌-◌, ◌^◌, min, Bool, nat_lt, nat_le, not, ◌&&◌, ◌||◌, List, [], ◌++◌, length, take, drop, if◌then◌else◌}
use Rattle.std.specs.List.{list_any}
use Rattle.fj_io.specs.Outside.{next_count}

-- the numbers of the calls that fail, how many calls were made, and how many failed
pub record Schedule : Type 0 where
  pub fails : List ℕ
  pub calls : ℕ
  pub faults : ℕ

-- no call was made
abbrev pub first_schedule : List ℕ → Schedule
first_schedule fails = record { fails = fails; calls = 0; faults = 0 }

-- after a call that doesn't fail
abbrev pub after_call : Schedule → Schedule
after_call s = record { fails = s.fails; calls = next_count s.calls; faults = s.faults }

-- after a call that fails
abbrev pub after_fault : Schedule → Schedule
after_fault s = record { fails = s.fails; calls = next_count s.calls; faults = next_count s.faults }

-- the list has the number of the next call, counted from 1; the last count is the number of no call
abbrev pub is_listed : Schedule → Bool
is_listed s = nat_lt (next_count s.calls) (2 ^ 64 - 1) && list_any (λ n. n == next_count s.calls) s.fails

-- a source: the bytes not yet read, and how many a call gives at most
pub record Input : Type 0 where
  pub left : List ℕ
  pub step : ℕ
  pub schedule : Schedule

-- how many bytes a call gives into this much room
abbrev pub given_count : Input → ℕ → ℕ
given_count s room = min (min s.step room) (length s.left)

-- after a call that gave so many bytes
abbrev pub after_giving : Input → ℕ → Input
after_giving s n = record { left = drop n s.left; step = s.step; schedule = after_call s.schedule }

-- after a read that failed
abbrev pub after_failed_read : Input → Input
after_failed_read s = record { left = s.left; step = s.step; schedule = after_fault s.schedule }

-- a sink: the bytes taken, and how many it has room for
pub record Output : Type 0 where
  pub taken : List ℕ
  pub room : ℕ
  pub schedule : Schedule

-- the next call takes the whole piece: an empty one, or one that fits, where the call isn't listed
abbrev pub is_taken_whole : Output → ℕ → Bool
is_taken_whole s size = (size == 0) || (not (is_listed s.schedule) && nat_le size (s.room - length s.taken))

-- after a call that took the whole piece
abbrev pub after_taking : Output → List ℕ → Output
after_taking s piece = record { taken = s.taken ++ piece; room = s.room; schedule = after_call s.schedule }

-- after a write that failed: a listed call took nothing, another filled the room
abbrev pub after_failed_write : Output → List ℕ → Output
after_failed_write s piece = record { taken = s.taken ++ (if is_listed s.schedule then [] else take (s.room - length s.taken) piece); room = s.room; schedule = after_fault s.schedule }
