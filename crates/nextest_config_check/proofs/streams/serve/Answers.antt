use Rattle.std.proofs.Common.{◌≡◌, ℕ, List, ◌++◌, Option, codes}
use Rattle.std.proofs.KnownBytes.{Keeps-refl}
use Rattle.nextest_config_report.specs.ExitStatus.{exit_code}
use Rattle.nextest_config_report.specs.Streams.{AddsOrFails}
use Rattle.nextest_config_check.specs.CommandLine.{command_line_of, CommandLine, IfCheck, IfComplaint, IsWordsFault, check, complain, words_fault_text, words_status}
use Rattle.nextest_config_check.specs.Streams.{IsCutShort}
use Rattle.nextest_config_check.specs.declared.command_line.WordsFault.{WordsFault}
use Rattle.nextest_config_check.specs.declared.command_line.WordsFault.TheVariants as words
use Rattle.nextest_config_check.specs.declared.streams.RunFault.TheVariants as faults
use Rattle.nextest_config_check.proofs.streams.serve.Goals as goal

-- words that are refused end with status 3 only where memory runs out
words_cut_short : (line : CommandLine) (fault : WordsFault) (unwritten unsaid : Type 0) (left old said says : Option (List ℕ)) (status : ℕ) → IsWordsFault line fault → status ≡ exit_code (words_status fault)
    → AddsOrFails unsaid said says (words_fault_text fault ++ codes "\n") → status ≡ 3 → IfCheck line (λ current overridden edition. IsCutShort left unwritten old old unsaid said says)
words_cut_short (complain text) fault unwritten unsaid left old said says status h is told three = tt
words_cut_short (check current overridden edition) words.Memory unwritten unsaid left old said says status h is told three = (faults.Memory, Keeps-refl old, told)
words_cut_short line fault unwritten unsaid left old said says status h is told three = cc (is, three)

-- what is told of words that are refused is their complaint
none_told : (line : CommandLine) (fact : List ℕ → Type 0) → IfComplaint line (λ text. ⊥) → IfComplaint line fact
none_told (check current overridden edition) fact h = tt
none_told (complain text) fact h = absurd h

words_told : (line : CommandLine) (fault : WordsFault) (unsaid : Type 0) (said says : Option (List ℕ)) → IsWordsFault line fault
    → AddsOrFails unsaid said says (words_fault_text fault ++ codes "\n") → IfComplaint line (λ text. AddsOrFails unsaid said says text)
words_told line words.Usage unsaid said says h told = rw h told
words_told line (words.NotVersion word) unsaid said says h told = rw h told
words_told line words.Memory unsaid said says h told = none_told line _ h

pub returns-in-Err-clause-told : goal.returns-in-Err-clause-told
returns-in-Err-clause-told g c = words_told (command_line_of c.args.words.now) c.in-Err.fault _ _ _ c.in-Err.ensures c.refuse.ensures.told

pub returns-in-Err-clause-cut_short : goal.returns-in-Err-clause-cut_short
returns-in-Err-clause-cut_short g c = words_cut_short (command_line_of c.args.words.now) c.in-Err.fault _ _ _ _ _ _ c.refuse.result c.in-Err.ensures c.refuse.ensures.status c.refuse.ensures.told
