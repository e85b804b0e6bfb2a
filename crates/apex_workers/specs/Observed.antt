-- A board with observers of its sampling channels.
use Rattle.std.specs.Prelude.{List}
use Rattle.apex_board.specs.BoardView.{BoardView}
use Rattle.apex_observers.specs.Published.{Published}

pub record ObservedView : Type 0 where
  pub board : BoardView
  pub observers : List Published
