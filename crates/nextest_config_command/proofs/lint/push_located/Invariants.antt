use Rattle.std.proofs.Common.{◌≡◌, ◌++◌, map, string_bytes, take}
use Rattle.nextest_config_command.specs.Lint.{located_text}
use Rattle.nextest_config_command.proofs.lint.push_located.Given as goal

-- the findings so far are reported
abbrev pub invariant-loop-one : goal.invariant-loop-one
invariant-loop-one l = string_bytes l.text ≡ string_bytes l.fn.text
    ++ located_text l.fn.format l.fn.path (map (λ line. line.now) l.fn.lines) (take l.one-index l.fn.located)
