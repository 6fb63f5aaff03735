use Rattle.std.proofs.Common.{Some, None, ap, inl, inr}
use Rattle.nextest_config_values.proofs.Arguments.{bad_name}
use Rattle.nextest_config_values.proofs.Faults.{fault_mapped, passed_on}
use Rattle.nextest_config_values.proofs.Texts.{split_colon}
use Rattle.nextest_config_values.specs.Identifier.{tool_name_fault}
use Rattle.nextest_config_values.specs.ToolConfig.{argument_fault, invalid_format, IsArgumentFault, RefusesArgument}
use Rattle.nextest_config_values.proofs.tool_config.ToolConfigFile.from_str.Goals as goal

pub returns-in_default-clause-refused : goal.returns-in_default-clause-refused
returns-in_default-clause-refused c =
    inl (split_colon c.args.input.now None c.utf8.input c.in_default.ensures.cases, ap invalid_format c.in_ok-input.ensures.ok)

pub returns-in-Err-clause-refused : goal.returns-in-Err-clause-refused
returns-in-Err-clause-refused c =
    let cut = split_colon c.args.input.now (Some (c.in-Some.name, c.in-Some.path)) c.utf8.input c.in-Some.ensures.cases in
    bad_name c.args.input.now c.in-Some.name.now c.in-Some.path.now (tool_name_fault c.in-Err.error) _ c.invalid_tool_name.result cut.bytes c.in-Err.ensures.refused c.invalid_tool_name.ensures

pub returns-in_err-config_file-clause-refused : goal.returns-in_err-config_file-clause-refused
returns-in_err-config_file-clause-refused c =
    let cut = split_colon c.args.input.now (Some (c.in-Some.name, c.in-Some.path)) c.utf8.input c.in-Some.ensures.cases in
    passed_on (RefusesArgument (IsArgumentFault c.args.input.now)) c.from_residual-in_err-config_file.result
    c.in_err-config_file.field-0.0 c.from_residual-in_err-config_file.ensures.1
    (fault_mapped (argument_fault c.in_err-config_file.field-0.0) c.in_err-config_file.ensures.refused (λ memory. memory)
    (λ fault bad. inr (c.in-Some.name.now, c.in-Some.path.now, cut.bytes, inr (c.in-Ok.tool, c.in-Ok.ensures.accepted, bad))))

pub returns-clause-accepted : goal.returns-clause-accepted
returns-clause-accepted c =
    let cut = split_colon c.args.input.now (Some (c.in-Some.name, c.in-Some.path)) c.utf8.input c.in-Some.ensures.cases in
    let path = c.in_ok-config_file.ensures.accepted in
    rw path.0 (record { name = c.in-Some.name.now; cut = cut.bytes; tool = c.in-Ok.ensures.accepted; absolute = path.1 })
