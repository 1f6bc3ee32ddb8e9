-- `board_c::run::board_run` meets its contract: the function of its name in `board` promises the same. Assumes nothing.
use Rattle.board_c.proofs.run.board_run.Goals as goal

pub returns : goal.returns
returns c = c.board_run.ensures
