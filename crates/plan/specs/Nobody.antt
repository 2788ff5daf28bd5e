-- What stands for a request past the end of a list; it is never answered. Assumes nothing.
use Rattle.choose.specs.declared.Choice.TheVariants.{Auto}
use Rattle.request.specs.declared.Want.TheVariants.{Host}
use Rattle.request.specs.declared.Request.{Request}

abbrev pub nobody : Request
nobody = record { requester = 0; slot = 0; want = Host Auto }
