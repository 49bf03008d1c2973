-- numbered rows
mod RunLemmas
