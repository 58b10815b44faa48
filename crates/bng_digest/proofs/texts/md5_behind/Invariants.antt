use Rattle.std.proofs.Common.{◌++◌, map, take}
use Rattle.std.specs.List.{concat}
use Rattle.md5.specs.Md5.{Holds}
use Rattle.bng_digest.proofs.texts.md5_behind.Given as goal

-- the hasher has taken in the front and the texts so far
abbrev pub invariant-loop-text : goal.invariant-loop-text
invariant-loop-text l = Holds l.hasher (l.front ++ concat (map (λ text. text.now) (take l.text-index l.texts)))
