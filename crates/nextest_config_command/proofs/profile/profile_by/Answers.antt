use Rattle.std.proofs.Common.{MatchOption, string_bytes}
use Rattle.nextest_config_profiles.specs.Chain.{IsChain}
use Rattle.nextest_config_profiles.specs.Layer.{all_layers}
use Rattle.nextest_config_profiles.specs.Profile.{chain_in, IsProfileFault, profile_wrong}
use Rattle.nextest_config_command.specs.Answer.{answer_of}
use Rattle.nextest_config_command.specs.Profile.{IsWrongReported, reported}
use Rattle.nextest_config_command.proofs.ProfilesReported.{answered_without, refused_for}
use Rattle.nextest_config_command.proofs.profile.profile_by.Goals as goal

pub returns-in_ok-answer-in-Ok : goal.returns-in_ok-answer-in-Ok
returns-in_ok-answer-in-Ok c =
    let layers = c.args.layers.now in
    let profile = c.in-Ok.profile in
    let chain : IsChain (all_layers layers) (string_bytes c.args.task.now.name) (chain_in profile) = rw c.as_str.ensures.value at c.in-Ok.ensures.chain in
    reported profile (record { files_are = c.in-Ok.ensures.files; layers_are = c.in-Ok.ensures.layers; chain_is = chain }) c.in_ok-answer-in-Ok.ensures

pub returns-in_ok-answer-in-Err : goal.returns-in_ok-answer-in-Err
returns-in_ok-answer-in-Err c =
    let layers = c.args.layers.now in
    let name = string_bytes c.args.task.now.name in
    let fault : IsProfileFault (all_layers layers) name c.in-Err.fault = rw c.as_str.ensures.value at c.in-Err.ensures.fault in
    let wrong : MatchOption (profile_wrong c.in-Err.fault) ⊥ (λ wrong. IsWrongReported layers name wrong (string_bytes c.in_ok-said-in-Err.said)) = rw c.as_str-in-Err.ensures.value at c.in_ok-said-in-Err.ensures in
    let refused = refused_for layers name (answer_of c.in_ok-answer-in-Err.answer) (profile_wrong c.in-Err.fault) _ wrong c.in_ok-answer-in-Err.ensures in
    answered_without layers c.args.task.now (answer_of c.in_ok-answer-in-Err.answer) (profile_wrong c.in-Err.fault) fault refused
