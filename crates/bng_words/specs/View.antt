-- What a piece of a line says without where it lies in memory.
use Rattle.bng_words.specs.declared.piece.Piece.{Piece}
use Rattle.bng_words.specs.declared.piece.Piece.TheVariants as piece
use Rattle.bng_words.specs.Line.{LinePiece, name, option}

abbrev pub piece_of : Piece → LinePiece
piece_of (piece.Name value) = name value.now
piece_of (piece.Option x value) = option x value.now
