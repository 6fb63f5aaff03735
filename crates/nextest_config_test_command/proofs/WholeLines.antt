-- What the command says over streams of which no call fails.
use Rattle.std.proofs.Common.{◌≡◌, ◌⊎◌, ℕ, List, ◌++◌, Some, codes, inl, inr, refl}
use Rattle.nextest_config_report.specs.Streams.{AddsOrFails}
use Rattle.nextest_config_command.specs.Files.{PathStates}
use Rattle.nextest_config_command.specs.Streams.{cut_off, IsCutShort, IsEnded, no_memory, unread}
use Rattle.nextest_config_command.specs.declared.request.Request.{Request}
use Rattle.nextest_config_test_command.specs.Kept.{IsDoneOrSaysWhy, SaysWhy}

whole_line : (unsaid : Type 0) (said says line : List ℕ) → (unsaid → ⊥) → AddsOrFails unsaid (Some said) (Some says) line → says ≡ said ++ line
whole_line unsaid said says line never (inl whole) = whole
whole_line unsaid said says line never (inr cut) = absurd (never cut.0)

module _ (holds : PathStates) (request : Request) (number : ℕ) (unwritten gone unsaid : Type 0) (old new said says : List ℕ) (written : unwritten → ⊥) (never : unsaid → ⊥) where
  says_why : IsCutShort holds request unwritten gone (Some old) (Some new) unsaid (Some said) (Some says) → (new ≡ old) × SaysWhy holds request said says
  says_why (unread complaint is kept told) = (kept, (complaint, inl is, whole_line unsaid said says _ never told))
  says_why (no_memory kept told) = (kept, (codes "out of memory", inr refl, whole_line unsaid said says _ never told))
  says_why (cut_off files answer between read answers failed front noticed told) = absurd (written failed)

  pub done_or_says_why : IsEnded holds request number unwritten gone (Some old) (Some new) unsaid (Some said) (Some says) → IsDoneOrSaysWhy holds request number old new said says
  done_or_says_why (inl served) = inl (record {
    files = served.files;
    read = served.read;
    answer = served.answer;
    done = served.done;
    noticed = inl (whole_line unsaid said says _ never served.noticed);
    number_is = served.number_is;
    written = served.written;
  })
  done_or_says_why (inr (three, cut)) = let (kept, why) = says_why cut in inr (three, kept, why)
