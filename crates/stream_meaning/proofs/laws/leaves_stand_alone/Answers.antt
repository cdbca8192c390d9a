use Rattle.stream_meaning.proofs.Leaves.{leaf_children, leaf_files, leaf_rests, reader_rests}
use Rattle.stream_meaning.proofs.laws.leaves_stand_alone.Goals as goal

pub returns-clause-children : goal.returns-clause-children
returns-clause-children c = λ rate i n kind op leaf is has. leaf_children rate i kind op leaf n is has

pub returns-clause-rests : goal.returns-clause-rests
returns-clause-rests c = λ rate i kind op leaf is. leaf_rests rate i kind op leaf is

pub returns-clause-readers : goal.returns-clause-readers
returns-clause-readers c = λ rate i buffer n kind op is has. reader_rests rate i kind op buffer n is has

pub returns-clause-files : goal.returns-clause-files
returns-clause-files c = λ rate i j kind k op again is. leaf_files rate i kind op j again k is
