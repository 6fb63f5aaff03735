use Rattle.nextest_config_lint.proofs.traversal.visit_document.Goals as goal

pub returns : goal.returns
returns g c = rw (c.new-traversal.ensures.path, c.new-traversal.ensures.visited, c.file_fields.ensures) at c.in_ok-visit_fields.ensures.visited
