-- What a view of an executable shows.
use Rattle.elf_file.specs.Loading.{Executable, executable}
use Rattle.elf_file.specs.declared.view.ImageView.{ImageView}

abbrev pub executable_of : ImageView → Executable
executable_of v = executable v.bytes.now
