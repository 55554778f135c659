use Rattle.example_frames.proofs.framing.write_frame.Goals as goal

pub returns : goal.returns
returns g c = (_, rw (c.new-out.ensures.items, c.new-out.ensures.spare) at c.wait_send.ensures)
