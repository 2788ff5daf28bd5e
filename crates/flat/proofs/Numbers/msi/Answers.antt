-- What is read of an MSI request can be read. Assumes nothing.
use Rattle.flat.proofs.ReadLaws.{msi_reads}
use Rattle.flat.proofs.Numbers.msi.Goals as goal

pub returns : goal.returns
returns c =
    msi_reads _ _ _ _ _ _ _ _ _ _ _ _ c.in_ok-id.field-0 c.in_ok-id-2.field-0 c.in_ok-id-3.field-0 c.in_ok-narrow.ensures c.in_ok-narrow-2.ensures c.in_ok-narrow-3.ensures
    c.in_ok-id.ensures c.in_ok-id-2.ensures c.in_ok-id-3.ensures
