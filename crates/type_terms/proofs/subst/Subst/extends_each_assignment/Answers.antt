use Rattle.std.proofs.Common.{◌≡◌, subst, ℕ, true}
use Rattle.type_terms.specs.Ground.{Assignment, IsNumber}
use Rattle.type_terms.specs.Extends.{Extends}
use Rattle.type_terms.specs.Table.{Table, IsSound, number_at}
use Rattle.type_terms.proofs.Solutions.{solution, solution_extends}
use Rattle.type_terms.proofs.subst.Subst.extends_each_assignment.Goals as goal

extends : (s : Table) → IsSound s → (p : Assignment) → ((k : ℕ) → number_at s.types k ≡ true → IsNumber (p.type_of k)) → (a : Assignment) × Extends s p a
extends s h p n = (solution s h p, solution_extends s h p n)

pub returns : goal.returns
returns c = extends c.args.self.now (subst IsSound c.self.view_is c.self.invariant.whole.sound)
