-- Words that nextest's documentation lists.
use Rattle.std.specs.Prelude.{ℕ, List, [], ◌∷◌, codes}
use Rattle.nextest_config_elements.specs.declared.word_list.WordList.{WordList}
use Rattle.nextest_config_elements.specs.declared.word_list.WordList.TheVariants.{ArchiveOnMissing, ArchiveRelativeTo, FinalStatusLevel, StatusLevel, TargetRunner, TestOutputDisplay}

-- the words, as a refusal lists them
abbrev pub listed_words : WordList → List (List ℕ)
listed_words StatusLevel =
    codes "none" ∷ codes "fail" ∷ codes "retry" ∷ codes "slow" ∷ codes "leak" ∷ codes "pass"
    ∷ codes "skip" ∷ codes "all" ∷ []
listed_words FinalStatusLevel =
    codes "none" ∷ codes "fail" ∷ codes "flaky" ∷ codes "slow" ∷ codes "skip" ∷ codes "leak"
    ∷ codes "pass" ∷ codes "all" ∷ []
listed_words TestOutputDisplay =
    codes "immediate" ∷ codes "immediate-final" ∷ codes "final" ∷ codes "never" ∷ []
listed_words TargetRunner =
    codes "ignore" ∷ codes "overrides-wrapper" ∷ codes "within-wrapper" ∷ codes "around-wrapper"
    ∷ []
listed_words ArchiveRelativeTo = codes "target" ∷ []
listed_words ArchiveOnMissing = codes "ignore" ∷ codes "warn" ∷ codes "error" ∷ []

-- the words that are taken, too, and never listed
abbrev pub unlisted_words : WordList → List (List ℕ)
unlisted_words FinalStatusLevel = codes "retry" ∷ []
unlisted_words list = []
