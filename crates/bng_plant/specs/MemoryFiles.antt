-- What the files in memory tell and hold.
use Rattle.std.specs.Prelude.{ℕ, ◌-◌, List, Option, Some, Bool, true, false, map, position, option_map, vec_len, vec_capacity}
use Rattle.bng_base.specs.Told.{FilesTold}
use Rattle.bng_plant.specs.Failing.{Calls, calls_of, one_more}
use Rattle.bng_plant.specs.MemoryFile.{is_named, contents_at, read_at}
use Rattle.bng_plant.specs.declared.memory_file.MemoryFile.{MemoryFile}
use Rattle.bng_plant.specs.declared.memory_files.MemoryFiles.{MemoryFiles}

abbrev pub told_by : MemoryFiles → FilesTold
told_by f = record { reads = Some (map (read_at f.files.items) f.reads.items); faults = f.failing.faults }

-- its calls, its files, and for how many reads more it has room
pub record FilesHeld : Type 0 where
  pub calls : Calls
  pub files : List MemoryFile
  pub reads : ℕ

abbrev pub held_by : MemoryFiles → FilesHeld
held_by f = record { calls = calls_of f.failing; files = f.files.items; reads = vec_capacity f.reads - vec_len f.reads }

-- the place of the first file of this name
abbrev pub place : FilesHeld → List ℕ → Option ℕ
place f name = position (is_named name) f.files

-- what the first file of this name contains
abbrev pub text_of : FilesHeld → List ℕ → Option (List ℕ)
text_of f name = option_map (contents_at f.files) (place f name)

-- after a read that answered a text or none
abbrev pub after_read : Bool → FilesHeld → FilesHeld
after_read true f = record f { calls = one_more f.calls; reads = f.reads - 1 }
after_read false f = record f { calls = one_more f.calls }
