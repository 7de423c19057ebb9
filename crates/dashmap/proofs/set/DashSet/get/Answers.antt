use Rattle.dashmap.proofs.set.DashSet.get.Goals as goal

pub returns-in-Some-clause-evidence : goal.returns-in-Some-clause-evidence
returns-in-Some-clause-evidence g c = rw (c.of_pair.ensures, ← c.self.view_is) c.in-Some.ensures.evidence

pub returns-in-None-clause-evidence : goal.returns-in-None-clause-evidence
returns-in-None-clause-evidence g c = rw (← c.self.view_is) c.in-None.ensures.evidence
