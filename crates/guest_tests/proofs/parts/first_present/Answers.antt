use Rattle.guest_tests.proofs.parts.first_present.Goals as goal

pub returns-in-Ok-put-clause-bytes : goal.returns-in-Ok-put-clause-bytes
returns-in-Ok-put-clause-bytes c = rw (c.new-pages.ensures.0, c.in-Ok.ensures) at c.in-Ok-put.ensures.ok
