-- What is wrong with a platform, and how it prints.
use Rattle.std.specs.Prelude.{ℕ, List, [], ◌∷◌, ◌++◌, codes, decimal}
use Rattle.toml_spans.specs.QuotedText.{quoted_text}
use Rattle.nextest_config_filters.specs.declared.fault.TextFaultCode.{TextFaultCode}
use Rattle.nextest_config_filters.specs.declared.fault.TextFaultCode.TheVariants as fault_codes
use Rattle.nextest_config_filters.specs.declared.platform.flaw.PlatformFlaw.{PlatformFlaw}
use Rattle.nextest_config_filters.specs.declared.platform.flaw.PlatformFlaw.TheVariants as flaws

abbrev pub code_of_platform : PlatformFlaw → TextFaultCode
code_of_platform flaws.FamilyName = fault_codes.PlatformWord
code_of_platform flaws.SystemName = fault_codes.PlatformWord
code_of_platform flaw = fault_codes.PlatformSyntax

-- what is found, or that it is the end
abbrev pub unexpected_text : List ℕ → List ℕ
unexpected_text [] = codes "unexpected end"
unexpected_text (b ∷ bytes) = codes "unexpected " ++ quoted_text (b ∷ bytes)

abbrev pub platform_text : PlatformFlaw → List ℕ → List ℕ
platform_text flaws.FamilyName found = codes "no target is called " ++ quoted_text found
platform_text flaws.SystemName found =
    codes "no target is called " ++ (quoted_text found
    ++ (codes ", did you mean cfg(target_os = " ++ (quoted_text found ++ codes ")")))
platform_text flaws.NoName found = codes "expected \"cfg(..)\" or the name of a target"
platform_text flaws.Unexpected found = unexpected_text found
platform_text flaws.NotClosed found = codes "this \"(\" isn't closed"
platform_text flaws.NotOpen found = codes "nothing is open that this \")\" closes"
platform_text flaws.ValueNotClosed found = codes "this \"\\\"\" isn't closed"
platform_text (flaws.NotMembers count) found =
    codes "\"not\" takes one member, not " ++ decimal count
platform_text flaws.NoMember found = codes "\"cfg()\" needs a member"
platform_text flaws.ManyMembers found =
    codes "\"cfg(..)\" takes one member, did you mean \"all(.., ..)\" or \"any(.., ..)\""
platform_text flaws.UnwantedValue found = quoted_text found ++ codes " takes no value"
platform_text flaws.NoValue found =
    quoted_text found
    ++ (codes " needs a value, as in \"" ++ (found ++ codes " = \\\"..\\\"\""))
platform_text flaws.UnknownKey found = codes "unknown key " ++ quoted_text found
platform_text flaws.NoNumber found =
    quoted_text found
    ++ (codes " is a number, as in \"" ++ (found ++ codes " = \\\"64\\\"\""))
