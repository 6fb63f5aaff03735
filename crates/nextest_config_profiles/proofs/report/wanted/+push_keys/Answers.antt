use Rattle.std.proofs.Common.{◌∙◌, ◌++◌, ◌∷◌, [], None, Some, ap, append_assoc, lit<}
use Rattle.std.proofs.lemmas.List.{map_push}
use Rattle.std.proofs.lemmas.Str.Pattern.{split_parts}
use Rattle.nextest_config_profiles.proofs.PathTexts.{key_more, no_dot, one_key}
use Rattle.nextest_config_profiles.specs.Reach.{words_of}
use Rattle.nextest_config_profiles.proofs.report.wanted.+push_keys.Goals as goal

pub returns-in_ok-push_keys-in-Some : goal.returns-in_ok-push_keys-in-Some
returns-in_ok-push_keys-in-Some t c =
    let key = c.in-Some.key.now in
    let parts = split_parts 46 c.args.path.now (Some (c.in-Some.key, c.in-Some.rest)) c.in-Some.ensures.cases (lit< tt) in
    let (added, is_text, pushed) = c.in_ok-push_keys-in-Some.ensures in
    let first = ap words_of c.in_ok-push-in-Some.ensures.items ∙ map_push (λ word. word.now) c.args.keys.now.items c.in-Some.key in (
      key ∷ added,
      key_more c.args.path.now key c.in-Some.rest.now added parts.0 (no_dot key parts.1) is_text,
      pushed ∙ ap (λ front. front ++ added) first ∙ append_assoc (words_of c.args.keys.now.items) (key ∷ []) added,
    )

pub returns-in_ok-push-in-None : goal.returns-in_ok-push-in-None
returns-in_ok-push-in-None t c =
    let none = split_parts 46 c.args.path.now None c.in-None.ensures.cases (lit< tt) in
    let first = ap words_of c.in_ok-push-in-None.ensures.items ∙ map_push (λ word. word.now) c.args.keys.now.items c.args.path in
    (c.args.path.now ∷ [], one_key c.args.path.now (no_dot c.args.path.now none), first)
