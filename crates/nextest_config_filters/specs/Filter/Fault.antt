-- The fault of a filter.
use Rattle.std.specs.Prelude.{◌≡◌, ℕ, List, [], ◌∷◌, ◌++◌, chars, encode_utf8_all, Option, Some}
use Rattle.std.specs.Str.{skip_leading_whitespace as behind_spaces}
use Rattle.nextest_config_filters.specs.Fault.{Fault, filter, found_of}
use Rattle.nextest_config_filters.specs.Filter.Hint.{IsHint}
use Rattle.nextest_config_filters.specs.Filter.Reading.{fault_at, FaultAt}
use Rattle.nextest_config_filters.specs.Filter.Walk.{Finds}
use Rattle.nextest_config_filters.specs.Front.{bytes_of}
use Rattle.nextest_config_filters.specs.declared.fault.FilterFlaw.TheVariants as flaws
use Rattle.nextest_config_filters.specs.declared.filter.FilterPlace.{FilterPlace}

-- what is reported of characters: that they are empty where all are spaces
abbrev pub IsReportedBehind : FilterPlace → List ℕ → List ℕ → FaultAt → Type 0
IsReportedBehind place [] cs reported = reported ≡ fault_at cs [] flaws.Empty
IsReportedBehind place (c ∷ behind) cs reported = Finds place cs (Some reported)

abbrev pub IsReported : FilterPlace → List ℕ → FaultAt → Type 0
IsReported place cs reported = IsReportedBehind place (behind_spaces cs) cs reported

-- the fault is what is reported: its range are the bytes of that, with what may be meant
pub record IsFaultOf (text : List ℕ) (reported : FaultAt) (fault : Fault) : Type 0 where
  pub front : List ℕ
  pub hint : Option (List ℕ)
  pub whole : chars text ≡ front ++ (reported.what ++ reported.behind)
  pub begin : fault.begin ≡ bytes_of front
  pub end : fault.end ≡ bytes_of (front ++ reported.what)
  pub kind : fault.kind
      ≡ filter reported.flaw (found_of reported.flaw (encode_utf8_all reported.found)) hint
  pub is_hint : IsHint text reported.flaw (encode_utf8_all reported.found) hint

-- the text has this fault: some front of it leads to a state from which no step leads on, and in
-- which that is reported
pub record IsFilterFault (place : FilterPlace) (text : List ℕ) (fault : Fault) : Type 0 where
  pub reported : FaultAt
  pub is_reported : IsReported place (chars text) reported
  pub is_fault : IsFaultOf text reported fault
