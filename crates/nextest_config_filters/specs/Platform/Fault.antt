-- The fault of a platform.
use Rattle.std.specs.Prelude.{◌≡◌, ℕ, ◌+◌, ◌≤◌, List, chars, encode_utf8_all, Option}
use Rattle.std.specs.Str.{skip_leading_whitespace as behind_spaces}
use Rattle.nextest_config_filters.specs.Fault.{Fault, platform}
use Rattle.nextest_config_filters.specs.Front.{bytes_of}
use Rattle.nextest_config_filters.specs.Platform.Hint.{IsPlatformHint}
use Rattle.nextest_config_filters.specs.Platform.Outcome.{IsOutcome}
use Rattle.nextest_config_filters.specs.Platform.Reading.{FaultAt}
use Rattle.nextest_config_filters.specs.Platform.Walk.{wrong}

-- this is reported of characters: some front of them leads to a state in which it is
abbrev pub IsPlatformReported : List ℕ → FaultAt → Type 0
IsPlatformReported cs reported = IsOutcome (behind_spaces cs) (wrong reported)

-- both ends of it lie in so many bytes
pub record AreBytesOf (reported : FaultAt) (size : ℕ) : Type 0 where
  pub from : reported.from ≤ size
  pub behind : reported.behind ≤ size

-- the fault is what is reported: its range are the bytes of that, with what may be meant
pub record IsPlatformFaultOf (text : List ℕ) (reported : FaultAt) (own : Fault) : Type 0 where
  pub hint : Option (List ℕ)
  pub begin : own.begin + reported.from ≡ bytes_of (chars text)
  pub end : own.end + reported.behind ≡ bytes_of (chars text)
  pub kind : own.kind ≡ platform reported.flaw (encode_utf8_all reported.found) hint
  pub is_hint : IsPlatformHint reported.flaw (encode_utf8_all reported.found) hint

-- the text has this fault
pub record IsPlatformFault (text : List ℕ) (own : Fault) : Type 0 where
  pub reported : FaultAt
  pub is_reported : IsPlatformReported (chars text) reported
  pub is_fault : IsPlatformFaultOf text reported own
