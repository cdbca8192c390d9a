use Rattle.op_cross.proofs.Running.{passing}
use Rattle.stretch_laws.proofs.Reaching.{item_more, item_titled, run_more}
use Rattle.stretch_laws.proofs.laws.cells_pass_through.Goals as goal

pub returns : goal.returns
returns c = record {
  run = λ setting sub k n many p j below state long filled is stands pass plain least low. run_more setting sub k n many p below state long filled is stands (passing state pass) plain least j low;
  item = λ setting sub k n many p j below state long filled is stands pass plain least low. item_more setting sub k n many p below state long filled is stands (passing state pass) plain least j low;
  titled = λ setting sub k n many rest p j title below state long filled is stands pass plain least few held over low.
      item_titled setting sub k n many p below state long filled is stands (passing state pass) plain least title rest few held over j low;
}
