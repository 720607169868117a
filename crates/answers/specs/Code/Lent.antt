-- What a caller lends for a run.
use Rattle.answers.specs.Runs.{Bytes}
use Rattle.answers.specs.declared.bytes.RunBytes.{RunBytes}

abbrev pub bytes_of : RunBytes → Bytes
bytes_of run = record { state = run.state.now; sums = run.sums.now }
