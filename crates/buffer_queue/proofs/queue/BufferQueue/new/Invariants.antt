use Rattle.buffer_queue.proofs.queue.BufferQueue.new.Given as goal

abbrev pub ghosts-opened_at : goal.ghosts-opened_at
ghosts-opened_at a = record { capacity = a.capacity }
