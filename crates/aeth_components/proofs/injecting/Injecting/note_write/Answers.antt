use Rattle.std.proofs.Common.{ap, None, refl}
use Rattle.aeth_components.specs.Switching.{slot_written, write_end}
use Rattle.aeth_components.specs.declared.event.Event.TheVariants.{Change}
use Rattle.aeth_components.proofs.InjectingLemmas.{NotesEvent-cleared}
use Rattle.aeth_components.proofs.injecting.Injecting.note_write.Goals as goal

-- No entry is there any more.
pub returns-in-ClearSlot : goal.returns-in-ClearSlot
returns-in-ClearSlot c =
    let write = c.in-ClearSlot in
    NotesEvent-cleared c.args.part.now (Change c.args.write.now) (record { ni = write.ni; slot = write.slot; entry = None })
    c.args.self.now c.clear.new.self (ap slot_written write.is) (ap write_end write.is) c.requires.most
    c.clear.ensures.slots c.clear.ensures.room refl c.clear.ensures.kept
