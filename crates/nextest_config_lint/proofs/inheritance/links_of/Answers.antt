use Rattle.std.proofs.Common.{◌≡◌, None, Option, ap, cond, map, ◌∙◌}
use Rattle.std.proofs.lemmas.List.{drop_all}
use Rattle.std.specs.Str.{bytes_eq}
use Rattle.nextest_config_lint.specs.Defined.{default_profile, file_of}
use Rattle.nextest_config_lint.specs.Inheritance.{link_in, LinkView}
use Rattle.nextest_config_lint.proofs.Links.{all_links, link_after, link_updates}
use Rattle.nextest_config_lint.proofs.inheritance.links_of.Goals as goal

pub returns : goal.returns
returns c = all_links (map file_of c.args.files.now) (link_in c.remove.new.self) (λ profile.
    let all : link_in c.loop-position.links profile ≡ link_after profile 0 (map file_of c.args.files.now) None =
    rw (drop_all c.loop-position.position c.args.files.now c.loop-position-test.false) at (c.loop-position.invariant profile) in
    link_updates default_profile c.loop-position.links c.remove.new.self _ c.remove.ensures.updates profile ∙ ap (λ (link : Option LinkView). cond (bytes_eq default_profile profile) None link) all)
